use Rattle.std.specs.Prelude.{Ok}
use Rattle.euicc_core.specs.declared.ends.OpenError.TheVariants.{Failed, Unrecognised, NoMemory}
use Rattle.euicc_core.proofs.Settled.{end_failed, end_opened, end_unopened}
use Rattle.euicc_core.proofs.card.EuiccCard.power_cycle.Goals as goal

pub returns-in-Ok-power_up-clause-cause : goal.returns-in-Ok-power_up-clause-cause
returns-in-Ok-power_up-clause-cause g c =
    (end_opened (Ok c.in-Ok-power_up.card) _ _ _ _ c.in-Ok.ensures.cause c.in-Ok.ensures.told c.in-Ok-power_up.ensures.cause c.in-Ok-power_up.ensures.chip).cause

pub returns-in-Ok-power_up-clause-cost : goal.returns-in-Ok-power_up-clause-cost
returns-in-Ok-power_up-clause-cost g c =
    (end_opened (Ok c.in-Ok-power_up.card) _ _ _ _ c.in-Ok.ensures.cause c.in-Ok.ensures.told c.in-Ok-power_up.ensures.cause c.in-Ok-power_up.ensures.chip).cost

pub returns-in-Ok-power_up-clause-cycles : goal.returns-in-Ok-power_up-clause-cycles
returns-in-Ok-power_up-clause-cycles g c =
    (end_opened (Ok c.in-Ok-power_up.card) _ _ _ _ c.in-Ok.ensures.cause c.in-Ok.ensures.told c.in-Ok-power_up.ensures.cause c.in-Ok-power_up.ensures.chip).cycles

pub returns-in-Ok-power_up-clause-lit : goal.returns-in-Ok-power_up-clause-lit
returns-in-Ok-power_up-clause-lit g c = c.in-Ok-power_up.ensures.lit

pub returns-in-Ok-power_up-clause-settled : goal.returns-in-Ok-power_up-clause-settled
returns-in-Ok-power_up-clause-settled g c = c.in-Ok-power_up.ensures.settled

pub returns-in-Err-Failed-clause-cause : goal.returns-in-Err-Failed-clause-cause
returns-in-Err-Failed-clause-cause g c =
    let e = c.in-Err-Failed in (end_unopened e.field-0 Failed _ _ _ _ e.field-0-is c.in-Ok.ensures.cause c.in-Ok.ensures.told e.ensures.cause e.ensures.chip).cause

pub returns-in-Err-Failed-clause-cost : goal.returns-in-Err-Failed-clause-cost
returns-in-Err-Failed-clause-cost g c =
    let e = c.in-Err-Failed in (end_unopened e.field-0 Failed _ _ _ _ e.field-0-is c.in-Ok.ensures.cause c.in-Ok.ensures.told e.ensures.cause e.ensures.chip).cost

pub returns-in-Err-Failed-clause-cycles : goal.returns-in-Err-Failed-clause-cycles
returns-in-Err-Failed-clause-cycles g c =
    let e = c.in-Err-Failed in (end_unopened e.field-0 Failed _ _ _ _ e.field-0-is c.in-Ok.ensures.cause c.in-Ok.ensures.told e.ensures.cause e.ensures.chip).cycles

pub returns-in-Err-Unrecognised-clause-cause : goal.returns-in-Err-Unrecognised-clause-cause
returns-in-Err-Unrecognised-clause-cause g c =
    let e = c.in-Err-Unrecognised in (end_unopened e.field-0 Unrecognised _ _ _ _ e.field-0-is c.in-Ok.ensures.cause c.in-Ok.ensures.told e.ensures.cause e.ensures.chip).cause

pub returns-in-Err-Unrecognised-clause-cost : goal.returns-in-Err-Unrecognised-clause-cost
returns-in-Err-Unrecognised-clause-cost g c =
    let e = c.in-Err-Unrecognised in (end_unopened e.field-0 Unrecognised _ _ _ _ e.field-0-is c.in-Ok.ensures.cause c.in-Ok.ensures.told e.ensures.cause e.ensures.chip).cost

pub returns-in-Err-Unrecognised-clause-cycles : goal.returns-in-Err-Unrecognised-clause-cycles
returns-in-Err-Unrecognised-clause-cycles g c =
    let e = c.in-Err-Unrecognised in (end_unopened e.field-0 Unrecognised _ _ _ _ e.field-0-is c.in-Ok.ensures.cause c.in-Ok.ensures.told e.ensures.cause e.ensures.chip).cycles

pub returns-in-Err-NoMemory-clause-cause : goal.returns-in-Err-NoMemory-clause-cause
returns-in-Err-NoMemory-clause-cause g c =
    let e = c.in-Err-NoMemory in (end_unopened e.field-0 NoMemory _ _ _ _ e.field-0-is c.in-Ok.ensures.cause c.in-Ok.ensures.told e.ensures.cause e.ensures.chip).cause

pub returns-in-Err-NoMemory-clause-cost : goal.returns-in-Err-NoMemory-clause-cost
returns-in-Err-NoMemory-clause-cost g c =
    let e = c.in-Err-NoMemory in (end_unopened e.field-0 NoMemory _ _ _ _ e.field-0-is c.in-Ok.ensures.cause c.in-Ok.ensures.told e.ensures.cause e.ensures.chip).cost

pub returns-in-Err-NoMemory-clause-cycles : goal.returns-in-Err-NoMemory-clause-cycles
returns-in-Err-NoMemory-clause-cycles g c =
    let e = c.in-Err-NoMemory in (end_unopened e.field-0 NoMemory _ _ _ _ e.field-0-is c.in-Ok.ensures.cause c.in-Ok.ensures.told e.ensures.cause e.ensures.chip).cycles

pub returns-in-Err-clause-cause : goal.returns-in-Err-clause-cause
returns-in-Err-clause-cause g c = (end_failed _ _ _ (g.met.B.Chip.sound c.args.bench.now) c.in-Err.ensures.cause c.in-Err.ensures.told).cause

pub returns-in-Err-clause-cost : goal.returns-in-Err-clause-cost
returns-in-Err-clause-cost g c = (end_failed _ _ _ (g.met.B.Chip.sound c.args.bench.now) c.in-Err.ensures.cause c.in-Err.ensures.told).cost

pub returns-in-Err-clause-cycles : goal.returns-in-Err-clause-cycles
returns-in-Err-clause-cycles g c = (end_failed _ _ _ (g.met.B.Chip.sound c.args.bench.now) c.in-Err.ensures.cause c.in-Err.ensures.told).cycles
