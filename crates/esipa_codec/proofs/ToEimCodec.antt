-- A message to an eIM that is read was spelled so, and one that is spelled is read again.
use Rattle.std.proofs.Common.{◌≡◌, ℕ, ◌≤◌, List, length, Some, refl, arith}
use Rattle.sgp_values.specs.Eids.{IsEid}
use Rattle.sgp_fields.proofs.Codecs.{IsCodec, IsListed, IsSpelled, IsTaken}
use Rattle.sgp_fields.proofs.AloneCodec.{on_made, made_again}
use Rattle.sgp_fields.proofs.Elements.{record_codec, whole_codec}
use Rattle.sgp_fields.proofs.Sizes.{short, long}
use Rattle.sgp_fields.proofs.ValueCodecs.{eid_codec}
use Rattle.sgp_fields.specs.Fields.{last_at}
use Rattle.sgp_values.specs.Reading.{eid_of}
use Rattle.result_codec.specs.Spelling.{result, refusal}
use Rattle.result_codec.proofs.ResultCodec.{result_codec, result_few}
use Rattle.result_codec.proofs.RefusalCodec.{refusal_codec, refusal_few}
use Rattle.iot_bytes.proofs.Framing.{IsBytes}
use Rattle.esipa_codec.specs.Ranges.{IsToEim}
use Rattle.esipa_codec.specs.Reading.{to_eim_of, to_eim_at}
use Rattle.esipa_codec.specs.Spelling.{poll_content, to_eim}
use Rattle.esipa_codec.specs.declared.messages.ToEim.{ToEim}
use Rattle.esipa_codec.specs.declared.messages.ToEim.TheVariants as up

poll_codec : IsCodec (last_at eid_of 0x80) poll_content IsEid
unfolding poll_content
poll_codec = record_codec eid_codec 0x80 (omega arith) (λ eid fits. omega (arith, fits.len))

poll_few : (eid : List ℕ) → IsEid eid → length (poll_content eid) ≤ 18
unfolding poll_content
poll_few eid fits = short 0x80 eid 16 (omega (arith, fits.len)) (omega arith)

taken : (tag : ℕ) (content : List ℕ) (m : ToEim) → IsBytes content → to_eim_of tag content ≡ Some m → IsTaken to_eim IsToEim tag content m
unfolding to_eim_of to_eim IsToEim
taken tag content m fits e =
    on_made poll_codec up.Poll tag 0xa0 content _ m fits e (λ eid h. record { octets = refl; fits = h }) (λ e1.
    on_made result_codec up.Result tag 0xa1 content _ m fits e1 (λ r h. record { octets = refl; fits = h }) (λ e2.
    on_made refusal_codec up.Refused tag 0xa2 content _ m fits e2 (λ r h. record { octets = refl; fits = h }) (λ e3.
    absurd cc)))

again : (m : ToEim) → IsToEim m → IsSpelled to_eim_of to_eim m
unfolding to_eim_of to_eim IsToEim
again (up.Poll eid) h = record {
  tag = 0xa0;
  content = poll_content eid;
  octets = refl;
  low = omega arith;
  few = omega (arith, poll_few eid h);
  read = made_again poll_codec up.Poll eid h;
}
again (up.Result r) h = record {
  tag = 0xa1;
  content = result r;
  octets = refl;
  low = omega arith;
  few = omega (arith, result_few r h);
  read = made_again result_codec up.Result r h;
}
again (up.Refused r) h = record {
  tag = 0xa2;
  content = refusal r;
  octets = refl;
  low = omega arith;
  few = omega (arith, refusal_few r h);
  read = made_again refusal_codec up.Refused r h;
}

-- messages to eIMs and their elements
pub to_eim_listed : IsListed to_eim_of to_eim IsToEim
to_eim_listed = record { takes = λ tag content m fits few e. taken tag content m fits e; again = again }

-- and their octets
pub to_eim_codec : IsCodec to_eim_at to_eim IsToEim
unfolding to_eim_at
to_eim_codec = whole_codec to_eim_listed

-- the greatest carries the greatest result
pub to_eim_few : (m : ToEim) → IsToEim m → length (to_eim m) ≤ 18313
unfolding to_eim IsToEim
to_eim_few (up.Poll eid) h = omega (arith, long 0xa0 (poll_content eid) 18 (poll_few eid h) (omega arith))
to_eim_few (up.Result r) h = long 0xa1 (result r) 18309 (result_few r h) (omega arith)
to_eim_few (up.Refused r) h = omega (arith, long 0xa2 (refusal r) 23 (refusal_few r h) (omega arith))
