-- A home in which parts are written over what stood there.
use Rattle.std.specs.Prelude.{◌≡◌, ◌≢◌, ℕ, ◌+◌, ◌*◌, ◌≤◌, List, ◌++◌, length, take, drop, Option}
use Rattle.small_card.specs.Cards.{FullCard}
use Rattle.small_card.specs.Lists.{Every}
use Rattle.small_card.specs.declared.types.PackageResult.{PackageResult}
use Rattle.home_codec.specs.Layout.{slot_front}
use Rattle.home_codec.specs.Ordering.{somes, in_order}
use Rattle.home_codec.specs.Homes.{AreSlots}

-- the octets with these at this place
abbrev pub laid : List ℕ → ℕ → List ℕ → List ℕ
laid octets at part = take at octets ++ part ++ drop (at + length part) octets

-- where a slot begins, counted from 0
abbrev pub slot_begin : ℕ → ℕ
slot_begin slot = 6400 + 20736 * slot

-- each slot of the home begins with the result of its place, or is free
pub record HasPlaces (places : List (Option PackageResult)) (home : List ℕ) : Type 0 where
  pub all : length places ≡ 8
  pub size : length home ≡ 172288
  pub few : Every (λ place. length (slot_front place) ≤ 18313) places
  pub stand : AreSlots places (drop 6400 home)

-- the places of a card's pending results in its home
pub record HasPending (f : FullCard) (home : List ℕ) : Type 0 where
  pub places : List (Option PackageResult)
  pub stand : HasPlaces places home
  pub each : in_order (somes places) ≡ f.card.results.pending

-- the result has another number than each of these
abbrev pub IsOther : PackageResult → List PackageResult → Type 0
IsOther r rs = Every (λ s. s.seq ≢ r.seq) rs
