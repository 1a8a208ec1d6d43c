-- What an assistant in code stands for.
use Rattle.std.specs.Prelude.{◌≡◌, List}
use Rattle.esipa_codec.specs.Assistant.{IpaEvent, strikes, asked}
use Rattle.ipa_core.specs.declared.assistant.Ipa.{Ipa}

-- An assistant stands for all that happened to it: it keeps the strikes and the eIM that it asked.
pub record IsIpa (ipa : Ipa) (events : List IpaEvent) : Type 0 where
  pub strikes_are : ipa.strikes ≡ strikes events
  pub asked_is : ipa.asked ≡ asked events
