use Rattle.card_steps.proofs.OneStep.{psmos_executed, ecos_executed}
use Rattle.card_steps.proofs.loading.execute.Goals as goal

pub returns-in_ok-done-in-Psmos : goal.returns-in_ok-done-in-Psmos
returns-in_ok-done-in-Psmos c = record { executed = psmos_executed c.args.profiles.now c.in_ok-profiles.profiles _ c.args.eims c.args.body.now c.in-Psmos.ops _ _ c.in-Psmos.is c.in_ok-profiles.ensures c.in_ok-done-in-Psmos.ensures }

pub returns-in_ok-done-in-Ecos : goal.returns-in_ok-done-in-Ecos
returns-in_ok-done-in-Ecos c = record { executed = ecos_executed c.args.profiles.now c.in_ok-profiles.profiles c.args.eims _ c.args.body.now c.in-Ecos.ops _ c.in-Ecos.is c.in_ok-profiles.ensures c.in_ok-done-in-Ecos.ensures.executed }
