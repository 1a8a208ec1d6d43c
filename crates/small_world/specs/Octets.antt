-- The octets of all messages ever sent, and their limit.
use Rattle.std.specs.Prelude.{ℕ, ◌+◌, ◌≤◌, length, map, sum}
use Rattle.esipa_codec.specs.Spelling.{to_eim, to_ipa}
use Rattle.small_world.specs.Worlds.{SmallWorld}

-- The lengths of all messages that were appended to the two lists.
unfoldable pub octets_sent : SmallWorld → ℕ
octets_sent w = sum (map (λ p. length (to_eim p.message)) w.to_eims) + sum (map (λ r. length (to_ipa r.message)) w.to_ipa)

-- All messages together have at most so many octets.
abbrev pub most_octets_sent : ℕ
most_octets_sent = 268435456

-- The world is within the limit.
unfoldable pub IsWithin : SmallWorld → Type 0
IsWithin w = octets_sent w ≤ most_octets_sent
