-- Cards, packages and histories of the worked examples.
use Rattle.std.specs.Prelude.{ℕ, zero, suc, ◌+◌, List, [], ◌∷◌, Bool, true, false, None, reverse}
use Rattle.small_card.specs.Cards.{SmallCard, FullCard, EimList, Results}
use Rattle.small_card.specs.Units.{CardUnit, initial, load}
use Rattle.small_card.specs.Histories.{History}
use Rattle.small_card.specs.Packages.{Executed}
use Rattle.small_card.specs.declared.types.Profile.{Profile}
use Rattle.small_card.specs.declared.types.EimEntry.{EimEntry}
use Rattle.small_card.specs.declared.types.Psmo.TheVariants as psmo
use Rattle.small_card.specs.declared.types.Eco.{Eco}
use Rattle.small_card.specs.declared.types.Eco.TheVariants as eco
use Rattle.small_card.specs.declared.types.Item.{Item}
use Rattle.small_card.specs.declared.types.Body.{Body}
use Rattle.small_card.specs.declared.types.Body.TheVariants.{Psmos, Ecos}
use Rattle.small_card.specs.declared.types.Package.{Package}
use Rattle.small_card.specs.declared.types.PackageResult.{PackageResult}

-- The ICCID 984400000000000000 with this last octet.
abbrev pub iccid : ℕ → List ℕ
iccid last = 152 ∷ 68 ∷ 0 ∷ 0 ∷ 0 ∷ 0 ∷ 0 ∷ 0 ∷ 0 ∷ last ∷ []

-- The first profile of the card.
abbrev pub home : List ℕ
home = iccid 1

-- The second profile of the card.
abbrev pub road : List ℕ
road = iccid 2

-- The third profile of the card.
abbrev pub spare : List ℕ
spare = iccid 3

-- A profile that the card doesn't have.
abbrev pub absent : List ℕ
absent = iccid 9

-- A profile without a nickname, enabled or not.
abbrev pub profile : List ℕ → Bool → Profile
profile i on = record { iccid = i; enabled = on; nickname = [] }

-- The card's three profiles, of which these are enabled.
abbrev pub table : Bool → Bool → Bool → List Profile
table x y z = profile home x ∷ profile road y ∷ profile spare z ∷ []

-- The first profile is enabled.
abbrev pub home_on : List Profile
home_on = table true false false

-- The second profile is enabled.
abbrev pub road_on : List Profile
road_on = table false true false

-- No profile is enabled.
abbrev pub all_off : List Profile
all_off = table false false false

-- The EID 000102030405060708090a0b0c0d0e0f.
abbrev pub card_eid : List ℕ
card_eid = 0 ∷ 1 ∷ 2 ∷ 3 ∷ 4 ∷ 5 ∷ 6 ∷ 7 ∷ 8 ∷ 9 ∷ 10 ∷ 11 ∷ 12 ∷ 13 ∷ 14 ∷ 15 ∷ []

-- A card of this EID: its profiles, eIMs and pending results.
abbrev pub card : List Profile → EimList → Results → SmallCard
card ps ms rs = record { eid = card_eid; profiles = ps; eims = ms; results = rs }

-- These eIMs, and the association that the next one gets.
abbrev pub eims : List EimEntry → ℕ → EimList
eims es next = record { entries = es; next = next }

-- These results are pending, and the next one gets this number.
abbrev pub results : List PackageResult → ℕ → Results
results rs next = record { pending = rs; next = next }

-- No eIM yet.
abbrev pub nobody : EimList
nobody = eims [] 1

-- A card directly after it was personalised with these profiles.
abbrev pub start_card : List Profile → FullCard
start_card ps = record { card = card ps nobody (results [] 1); armed = None }

-- A card personalised with these profiles, and the units since, in their order.
abbrev pub after : List Profile → List CardUnit → History
after ps us = record { start = start_card ps; units = reverse us }

-- The identifier 'e' with this digit, an octet.
abbrev pub eim : ℕ → List ℕ
eim digit = 101 ∷ digit ∷ []

-- The identifier e1.
abbrev pub e1 : List ℕ
e1 = eim 49

-- The identifier e2.
abbrev pub e2 : List ℕ
e2 = eim 50

-- The identifier e9.
abbrev pub e9 : List ℕ
e9 = eim 57

-- An entry without address and key.
abbrev pub entry : List ℕ → ℕ → ℕ → EimEntry
entry id association counter = record { id = id; address = []; key = []; counter = counter; association = association }

-- The first eIM of the card is e1, with association 1.
abbrev pub joined : CardUnit
joined = initial e1 [] []

-- A package of e1 for association 1, with this counter and body.
abbrev pub order : ℕ → Body → CardUnit
order n body = load (record { eim = e1; eid = card_eid; association = 1; counter = n; body = body })

-- Switch to the second profile, so that a rollback gives the first one back.
abbrev pub switch : Body
switch = Psmos (psmo.Enable road true ∷ [])

-- The same, after the first profile was disabled.
abbrev pub swap : Body
swap = Psmos (psmo.Disable home ∷ psmo.Enable road true ∷ [])

-- The same, after the first profile was deleted.
abbrev pub discard : Body
discard = Psmos (psmo.Disable home ∷ psmo.Delete home ∷ psmo.Enable road true ∷ [])

-- Switch, and then ask to delete the first profile.
abbrev pub switch_delete : Body
switch_delete = Psmos (psmo.Enable road true ∷ psmo.Delete home ∷ [])

-- Ask for the profiles.
abbrev pub show : Body
show = Psmos (psmo.List ∷ [])

-- Delete the first eIM, and ask for the eIMs.
abbrev pub leave : Body
leave = Ecos (eco.Delete e1 ∷ eco.List ∷ [])

-- A result of such a package, with this number and these items, marked or not.
abbrev pub kept_result : ℕ → ℕ → List Item → Bool → PackageResult
kept_result seq counter items rolled = record { seq = seq; eim = e1; association = 1; counter = counter; items = items; rolled = rolled }

-- What operations on profiles leave, on a card without eIMs.
abbrev pub left : List Profile → List Item → Executed
left ps items = record { profiles = ps; eims = nobody; items = items; armed = None }

-- The first entry with this counter, and the eIM added next has association 2.
abbrev pub first : ℕ → EimList
first counter = eims (entry e1 1 counter ∷ []) 2

-- So many adds, of eIMs with the digits from this one on.
abbrev pub adds : ℕ → ℕ → List Eco
adds digit zero = []
adds digit (suc n) = eco.Add (eim digit) [] [] ∷ adds (digit + 1) n

-- So many entries, with the digits and the associations from these on.
abbrev pub entries : ℕ → ℕ → ℕ → List EimEntry
entries digit association zero = []
entries digit association (suc n) = entry (eim digit) association 0 ∷ entries (digit + 1) (association + 1) n

-- A package of e1 for this association and EID, with this counter, that asks for the profiles.
abbrev pub listing : ℕ → ℕ → List ℕ → Package
listing association counter eid = record { eim = e1; eid = eid; association = association; counter = counter; body = show }

-- So many such packages, with counters from this one on.
abbrev pub loads : ℕ → ℕ → List CardUnit
loads counter zero = []
loads counter (suc n) = load (listing 1 counter card_eid) ∷ loads (counter + 1) n
