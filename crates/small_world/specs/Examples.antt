-- Lines, devices and runs of the worked examples.
use Rattle.std.specs.Prelude.{ℕ, true, false, List, [], ◌∷◌, ◌++◌, None, codes}
use Rattle.chip_port.specs.declared.chip.Tear.TheVariants as tear
use Rattle.small_card.specs.Examples.{home, home_on, all_off, card_eid, e1, listing}
use Rattle.small_card.specs.declared.types.Body.{Body}
use Rattle.small_card.specs.declared.types.Body.TheVariants.{Psmos}
use Rattle.small_card.specs.declared.types.Psmo.TheVariants as psmo
use Rattle.package_codec.specs.Spelling.{signed}
use Rattle.modem_bank.specs.Modems.{Seen}
use Rattle.iot_schedule.specs.declared.types.Device.{Device}
use Rattle.iot_schedule.specs.declared.types.Line.{Line}
use Rattle.iot_schedule.specs.declared.types.Line.TheVariants as line
use Rattle.iot_schedule.specs.declared.types.Pick.TheVariants.{At}
use Rattle.small_world.specs.Printing.{printed}
use Rattle.small_world.specs.Runs.{Turn, kept_on, MayTurn, after_turn}
use Rattle.small_world.specs.Worlds.{SmallWorld, start_world}

-- Three profiles, of which none is enabled.
abbrev pub dark_device : Device
dark_device = record { eid = card_eid; profiles = all_off }

-- Three profiles, of which the first is enabled.
abbrev pub home_device : Device
home_device = record { eid = card_eid; profiles = home_on }

-- Two modems that show nothing and were never refreshed.
abbrev pub two_modems : List Seen
two_modems = (None, 0) ∷ (None, 0) ∷ []

-- A line that is lost.
abbrev pub lost_on : Line → Turn
lost_on l = record { line = l; lost = true; taken = false }

-- A boot that takes what was in progress.
abbrev pub taking_boot : Turn
taking_boot = record { line = line.Boot; lost = false; taken = true }

-- The first eIM joins, is put on the card, and is bound.
abbrev pub set_up : List Turn
set_up = kept_on (line.Eim e1) ∷ kept_on (line.Initial e1 [] []) ∷ kept_on (line.Bind e1 1 0) ∷ []

-- The first eIM gets an order, which goes down to the assistant.
abbrev pub ordered_down : Body → List Turn
ordered_down body = kept_on (line.Order e1 body) ∷ kept_on (line.Poll e1) ∷ kept_on (line.Up (At 0)) ∷ []

-- Enable the first profile.
abbrev pub enable_home : Body
enable_home = Psmos (psmo.Enable home false ∷ [])

-- The texts of these turns, the first of them first.
unfoldable pub played : SmallWorld → List Turn → List (List ℕ)
played w [] = []
played w (t ∷ ts) = printed w t.line t.lost ∷ played (after_turn w t) ts

-- The world after these turns, the first of them first.
unfoldable pub left_by : SmallWorld → List Turn → SmallWorld
left_by w [] = w
left_by w (t ∷ ts) = left_by (after_turn w t) ts

-- Each of these turns is one that its line leaves, the first of them first.
unfoldable pub MayPlay : SmallWorld → List Turn → Type 0
MayPlay w [] = Unit {0}
MayPlay w (t ∷ ts) = MayTurn w t × MayPlay (after_turn w t) ts

-- The world of a device with these modems, behind the set-up.
abbrev pub ready : Device → List Seen → SmallWorld
ready d modems = left_by (start_world d modems) set_up

-- The texts behind the set-up.
abbrev pub texts_of : Device → List Seen → List Turn → List (List ℕ)
texts_of d modems ts = played (ready d modems) ts

-- The turns are ones that their lines leave, behind the set-up.
abbrev pub MayBe : Device → List Seen → List Turn → Type 0
MayBe d modems ts = MayPlay (ready d modems) ts

-- The messages of these numbers reach their eIMs, or the assistant with a good verdict.
abbrev pub goes_up : ℕ → Turn
goes_up n = kept_on (line.Up (At n))

abbrev pub goes_down : ℕ → Turn
goes_down n = kept_on (line.Down (At n) true)

-- Every unsynced octet is torn before the first call: the load is lost, and the card is dark.
abbrev pub torn_load : List Turn
torn_load =
    ordered_down enable_home
    ++ kept_on (line.Cut 0 tear.Junk) ∷ lost_on (line.Down (At 0) true) ∷ goes_down 0 ∷ kept_on line.Show ∷ []

-- The texts of a load that is lost, up to the boot.
abbrev pub torn_texts : List (List ℕ)
torn_texts = codes "ordered 1" ∷ codes "sent 0" ∷ codes "reply 0 package" ∷ codes "planned" ∷ codes "lost" ∷ codes "off" ∷ codes "off" ∷ []

-- The octets of a package of the first eIM that asks for the profiles, with this counter.
abbrev pub listing_octets : ℕ → List ℕ
listing_octets counter = signed (record { «package» = listing 1 counter card_eid; signature = [] })
