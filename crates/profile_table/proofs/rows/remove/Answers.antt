use Rattle.std.proofs.Common.{◌∙◌, ap, sym}
use Rattle.std.specs.Prelude.{position}
use Rattle.small_card.specs.Profiles.{is_iccid}
use Rattle.small_card.proofs.ProfileLemmas.{removed_profile, no_profile}
use Rattle.profile_table.proofs.rows.remove.Goals as goal

pub returns-in-Some : goal.returns-in-Some
returns-in-Some c = c.remove.ensures.rest ∙ removed_profile c.args.iccid.now c.args.rows.now c.in-Some.at c.requires (ap (position (is_iccid c.args.iccid.now)) (sym c.as_slice.ensures) ∙ sym c.in-Some.ensures)

pub returns-in_default : goal.returns-in_default
returns-in_default c = sym (no_profile c.args.iccid.now c.args.rows.now (ap (position (is_iccid c.args.iccid.now)) (sym c.as_slice.ensures) ∙ sym c.in_default.ensures))
