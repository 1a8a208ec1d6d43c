-- The units of a history, and what each makes of the card.
use Rattle.std.specs.Prelude.{ℕ, ◌+◌, ◌==◌, Bool, true, List, ◌++◌, map, filter, Option, Some, None}
use Rattle.std.specs.List.{list_any}
use Rattle.small_card.specs.Lists.{without}
use Rattle.small_card.specs.Cards.{SmallCard, FullCard, Results}
use Rattle.small_card.specs.Profiles.{enabled_alone}
use Rattle.small_card.specs.EimOperations.{do_eco}
use Rattle.small_card.specs.Packages.{executed, result_of, with_result}
use Rattle.small_card.specs.declared.types.Eco.TheVariants as eco
use Rattle.small_card.specs.declared.types.Package.{Package}
use Rattle.small_card.specs.declared.types.PackageResult.{PackageResult}
use Rattle.small_card.specs.declared.types.Armed.{Armed}

-- A unit adds a first eIM (id, address, key), loads a package, rolls back or removes a result.
pub data CardUnit : Type 0 where
  initial : List ℕ → List ℕ → List ℕ → CardUnit
  load : Package → CardUnit
  rollback : CardUnit
  remove : ℕ → CardUnit

-- The result has this number.
abbrev pub has_seq : ℕ → PackageResult → Bool
has_seq seq r = r.seq == seq

-- A result with this number is pending.
unfoldable pub is_pending : ℕ → List PackageResult → Bool
is_pending seq rs = list_any (has_seq seq) rs

-- The result with this number leaves.
unfoldable pub without_result : ℕ → Results → Results
without_result seq rs = record rs { pending = without (has_seq seq) rs.pending }

-- The result is marked as rolled back and gets this number.
abbrev pub with_mark : ℕ → PackageResult → PackageResult
with_mark seq r = record r { seq = seq; rolled = true }

-- The result is marked, gets the next sequence number, which rises, and goes last.
unfoldable pub marked : ℕ → Results → Results
marked seq rs = record {
  pending = without (has_seq seq) rs.pending ++ map (with_mark rs.next) (filter (has_seq seq) rs.pending);
  next = rs.next + 1;
}

-- An accepted package: the counter, then the operations, then the result.
unfoldable pub loaded : SmallCard → Package → SmallCard
loaded c p = record {
  eid = c.eid;
  profiles = (executed c p).profiles;
  eims = (executed c p).eims;
  results = with_result (result_of c p) c.results;
}

-- A permitted rollback enables the former profile alone and marks the armed result.
unfoldable pub rolled_back : Option Armed → SmallCard → SmallCard
rolled_back None c = c
rolled_back (Some a) c = record c { profiles = enabled_alone a.former c.profiles; results = marked a.seq c.results }

-- What a unit makes of a full card's card.
unfoldable pub after_unit : FullCard → CardUnit → SmallCard
after_unit f (initial id address key) = record (f.card) { eims = (do_eco f.card.eims (eco.Add id address key)).0 }
after_unit f (load p) = loaded f.card p
after_unit f rollback = rolled_back f.armed f.card
after_unit f (remove seq) = record (f.card) { results = without_result seq f.card.results }
