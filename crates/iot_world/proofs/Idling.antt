-- The lines that don't reach the card are idle ones.
use Rattle.std.proofs.Common.{ℕ, false, List, Result, refl}
use Rattle.iot_schedule.specs.declared.types.Line.TheVariants as line
use Rattle.iot_schedule.specs.declared.types.Pick.{Pick}
use Rattle.small_card.specs.declared.types.Body.{Body}
use Rattle.small_world.specs.Lines.{acted}
use Rattle.small_world.specs.Printing.{printed}
use Rattle.small_world.specs.Runs.{given}
use Rattle.small_world.specs.Stretches.{is_cut}
use Rattle.small_world.specs.Worlds.{SmallWorld}
use Rattle.world_network.specs.Networks.{Parts, IsNetwork}
use Rattle.world_network.proofs.Standing.{network_alike}
use Rattle.iot_world.specs.Asking.{Says}
use Rattle.iot_world.specs.Quiet.{QuietEnd}
use Rattle.iot_world.specs.declared.ends.Halt.{Halt}
use Rattle.iot_world.proofs.Messaging.{said_quietly}
use Rattle.iot_world.proofs.Resting.{IsIdleLine}

pub eim_idle : (w : SmallWorld) (id : List ℕ) → IsIdleLine w (line.Eim id)
unfolding given is_cut
eim_idle w id = record { gives_none = refl; no_boot = refl; no_cut = refl }

pub bind_idle : (w : SmallWorld) (id : List ℕ) (association last : ℕ) → IsIdleLine w (line.Bind id association last)
unfolding given is_cut
bind_idle w id association last = record { gives_none = refl; no_boot = refl; no_cut = refl }

pub order_idle : (w : SmallWorld) (id : List ℕ) (body : Body) → IsIdleLine w (line.Order id body)
unfolding given is_cut
order_idle w id body = record { gives_none = refl; no_boot = refl; no_cut = refl }

pub skip_idle : (w : SmallWorld) (id : List ℕ) → IsIdleLine w (line.Skip id)
unfolding given is_cut
skip_idle w id = record { gives_none = refl; no_boot = refl; no_cut = refl }

pub poll_idle : (w : SmallWorld) (id : List ℕ) → IsIdleLine w (line.Poll id)
unfolding given is_cut
poll_idle w id = record { gives_none = refl; no_boot = refl; no_cut = refl }

pub up_idle : (w : SmallWorld) (pick : Pick) → IsIdleLine w (line.Up pick)
unfolding given is_cut
up_idle w pick = record { gives_none = refl; no_boot = refl; no_cut = refl }

pub restart_idle : (w : SmallWorld) → IsIdleLine w line.Restart
unfolding given is_cut
restart_idle w = record { gives_none = refl; no_boot = refl; no_cut = refl }

pub show_idle : (w : SmallWorld) → IsIdleLine w line.Show
unfolding given is_cut
show_idle w = record { gives_none = refl; no_boot = refl; no_cut = refl }

pub kept_idle : (w : SmallWorld) (id : List ℕ) → IsIdleLine w (line.Kept id)
unfolding given is_cut
kept_idle w id = record { gives_none = refl; no_boot = refl; no_cut = refl }

pub detach_idle : (w : SmallWorld) (at : ℕ) → IsIdleLine w (line.Detach at)
unfolding given is_cut
detach_idle w at = record { gives_none = refl; no_boot = refl; no_cut = refl }

pub modems_idle : (w : SmallWorld) → IsIdleLine w line.Modems
unfolding given is_cut
modems_idle w = record { gives_none = refl; no_boot = refl; no_cut = refl }

-- what the lines of the modems say
pub detach_said : (w : SmallWorld) (at : ℕ) (n : Parts) (result : Result (Unit {0}) Halt) (before out : List ℕ) → IsNetwork n w → Says (printed w (line.Detach at) false) before out result → QuietEnd (line.Detach at) w result n before out
unfolding acted
detach_said w at n result before out network says =
    said_quietly (line.Detach at) w (printed w (line.Detach at) false) result n before out refl (network_alike n w (acted (line.Detach at) false false w) refl refl refl refl refl network) says

pub modems_said : (w : SmallWorld) (n : Parts) (result : Result (Unit {0}) Halt) (before out : List ℕ) → IsNetwork n w → Says (printed w line.Modems false) before out result → QuietEnd line.Modems w result n before out
unfolding acted
modems_said w n result before out network says = said_quietly line.Modems w (printed w line.Modems false) result n before out refl network says
