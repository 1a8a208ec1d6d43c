-- A history with a unit of each kind is legal.
use Rattle.std.proofs.Common.{true, false, [], ◌∷◌, arith, refl, sym}
use Rattle.std.proofs.lemmas.Bool.{true≢false}
use Rattle.std.proofs.lemmas.Str.{IsUtf8-nil}
use Rattle.sgp_values.specs.Iccids.{IsIccid}
use Rattle.sgp_values.specs.Eids.{IsEid}
use Rattle.sgp_values.specs.Ranges.{IsEimId, IsAddress, IsKey, IsNickname}
use Rattle.sgp_values.specs.Reading.{iccid_of, eid_of, eim_id_of, address_of, key_of}
use Rattle.sgp_values.proofs.Reading.{iccid_takes, eid_takes, eim_id_takes, address_takes, key_takes}
use Rattle.small_card.specs.Examples.{home, road, spare, profile, home_on, card_eid, start_card, e1, joined, order, switch, after}
use Rattle.small_card.specs.Legal.{IsLegal, IsLegalFrom, May}
use Rattle.small_card.specs.EimOperations.{last_association}
use Rattle.small_card.specs.Ranges.{IsBody, IsPsmo, AreApart, IsTable}
use Rattle.small_card.specs.Units.{rollback, remove}
use Rattle.small_card.specs.Valid.{IsValid}
use Rattle.small_card.proofs.Computing.{computing}
use Rattle.small_card.proofs.ListLemmas.{same_no}

home_fits : IsIccid home
unfolding iccid_of
home_fits = (iccid_takes home home refl).1

road_fits : IsIccid road
unfolding iccid_of
road_fits = (iccid_takes road road refl).1

spare_fits : IsIccid spare
unfolding iccid_of
spare_fits = (iccid_takes spare spare refl).1

eid_fits : IsEid card_eid
unfolding eid_of
eid_fits = (eid_takes card_eid card_eid refl).1

id_fits : IsEimId e1
unfolding eim_id_of
id_fits = (eim_id_takes e1 e1 refl).1

address_fits : IsAddress []
unfolding address_of
address_fits = (address_takes [] [] refl).1

key_fits : IsKey []
unfolding key_of
key_fits = (key_takes [] [] refl).1

nickname_fits : IsNickname []
nickname_fits = record { few = omega arith; utf8 = IsUtf8-nil }

home_apart : AreApart (profile home true) (profile road false)
home_apart = record { iccids = same_no home road refl; enabled = λ on off. absurd (true≢false (sym off)) }

spare_apart : AreApart (profile home true) (profile spare false)
spare_apart = record { iccids = same_no home spare refl; enabled = λ on off. absurd (true≢false (sym off)) }

others_apart : AreApart (profile road false) (profile spare false)
others_apart = record { iccids = same_no road spare refl; enabled = λ off on. absurd (true≢false (sym off)) }

table_fits : IsTable home_on
table_fits = record {
  few = omega arith;
  each = (record { iccid = home_fits; nickname = nickname_fits }, (record { iccid = road_fits; nickname = nickname_fits }, (record { iccid = spare_fits; nickname = nickname_fits }, tt)));
  apart = ((home_apart, (spare_apart, tt)), ((others_apart, tt), (tt, tt)));
}

start_valid : IsValid (start_card home_on)
start_valid = record {
  card = record {
    eid = eid_fits;
    profiles = table_fits;
    eims = record { few = omega arith; each = tt; apart = tt; next = record { some = omega arith; fits = omega arith } };
    results = record { few = omega arith; each = tt; rising = tt; next = record { some = omega arith; fits = omega arith } };
  };
  armed = λ a e. absurd (cc);
}

first_joins : May (after home_on []) joined
unfolding May last_association computing
first_joins = record { id = id_fits; address = address_fits; key = key_fits; empty = refl; next = omega arith }

switch_loads : May (after home_on (joined ∷ [])) (order 1 switch)
unfolding May IsBody IsPsmo computing
switch_loads = record {
  range = record {
    eim = id_fits;
    eid = eid_fits;
    association = record { some = omega arith; fits = omega arith };
    counter = record { some = omega arith; fits = omega arith };
    body = (record { some = omega arith; few = omega arith }, (road_fits, tt));
  };
  checks = refl;
}

home_returns : May (after home_on (joined ∷ order 1 switch ∷ [])) rollback
unfolding May computing
home_returns = refl

result_leaves : May (after home_on (joined ∷ order 1 switch ∷ rollback ∷ [])) (remove 2)
unfolding May computing
result_leaves = refl

pub all_kinds_legal : IsLegal (after home_on (joined ∷ order 1 switch ∷ rollback ∷ remove 2 ∷ []))
unfolding IsLegal IsLegalFrom
all_kinds_legal = ((((start_valid, first_joins), switch_loads), home_returns), result_leaves)
