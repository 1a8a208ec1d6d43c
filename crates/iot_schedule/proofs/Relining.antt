-- Each line that is spelled is read again.
use Rattle.std.proofs.Common.{◌≡◌, ℕ, ◌^◌, ◌<◌, Bool, true, false, not, List, [], ◌∷◌, ◌++◌, map, Option, Some, None, IfSome, refl, ap, ◌∙◌, arith}
use Rattle.std.specs.Prelude.{◌==◌, codes}
use Rattle.std.specs.List.{All, AllPass, slice_split, flat_map}
use Rattle.std.specs.Fmt.{decimal}
use Rattle.std.proofs.lemmas.List.{append-nil}
use Rattle.std.proofs.lemmas.List.Splits.{slice_split_at, slice_split_none}
use Rattle.std.proofs.lemmas.List.Sums.{AllPass-from_list_all}
use Rattle.iot_bytes.specs.Hexes.{hex}
use Rattle.iot_bytes.specs.Tokens.{is_space}
use Rattle.std.proofs.lemmas.Bool.{not-true}
use Rattle.iot_schedule.specs.Words.{words, joined, spaced, word_at, last_word, no_word}
use Rattle.sgp_fields.proofs.Steps.{only_if_again}
use Rattle.sgp_values.specs.Iccids.{IsIccid}
use Rattle.sgp_values.specs.Ranges.{IsEimId, IsAddress, IsKey, IsNickname, is_octet, is_name_octet, is_address_octet}
use Rattle.sgp_values.proofs.Octets.{nickname_octets}
use Rattle.sgp_values.proofs.Reading.{eim_id_again}
use Rattle.small_card.specs.Lists.{Every}
use Rattle.small_card.proofs.PairTests.{pairs_again, profile_pairs}
use Rattle.small_card.specs.Pairs.{each_pair, are_profiles_apart}
use Rattle.small_card.specs.Ranges.{IsProfile, IsPsmo, IsEco, IsBody, greatest_counter}
use Rattle.small_card.specs.declared.types.Profile.{Profile}
use Rattle.small_card.specs.declared.types.Psmo.{Psmo}
use Rattle.small_card.specs.declared.types.Psmo.TheVariants as psmo_op
use Rattle.small_card.specs.declared.types.Eco.{Eco}
use Rattle.small_card.specs.declared.types.Eco.TheVariants as eco_op
use Rattle.small_card.specs.declared.types.Body.{Body}
use Rattle.small_card.specs.declared.types.Body.TheVariants.{Psmos, Ecos}
use Rattle.chip_port.specs.declared.chip.Tear.{Tear}
use Rattle.chip_port.specs.declared.chip.Tear.TheVariants.{Old, New, Half, Junk}
use Rattle.iot_schedule.specs.declared.types.Device.{Device}
use Rattle.iot_schedule.specs.declared.types.Pick.{Pick}
use Rattle.iot_schedule.specs.declared.types.Pick.TheVariants.{At, Last}
use Rattle.iot_schedule.specs.declared.types.Line.{Line}
use Rattle.iot_schedule.specs.declared.types.Line.TheVariants as line
use Rattle.iot_schedule.specs.Tokens.{choice_of, profile_word}
use Rattle.iot_schedule.specs.Devices.{device_of, device_line, device_at}
use Rattle.iot_schedule.specs.Steps.{eim_line, initial_line, bind_line, order_line, skip_line, kept_line, poll_line, up_line, down_line, verdict_of, load_line, probe_line, cut_line, detach_line, bare_line, device_step, assistant_step, network_step, eim_step, step_line, step_at}
use Rattle.iot_schedule.specs.Spelling.{address_text, key_text, sign_text, profile_text, pick_text, bytes_text, tear_text, psmo_text, optional_text, eco_text, body_words, device_words, verdict_words, good_text, probe_text, step_words, device_text, step_text}
use Rattle.iot_schedule.specs.Ranges.{IsDevice, IsPick, IsStep}
use Rattle.iot_schedule.proofs.Lacking.{lacks, lacks_both, lacks_passing, hex_lacks, decimal_lacks}
use Rattle.iot_schedule.proofs.Rereading.{number_again, eid_word_again, address_word_again, key_word_again, profile_again, pick_again, bytes_again, tear_again}
use Rattle.iot_schedule.proofs.Reordering.{list_again, body_again}

-- a word without a space
abbrev pub IsWord : List ℕ → Type 0
IsWord w = lacks 32 w ≡ true

no_space : (w : List ℕ) → IsWord w → All (λ b. is_space b ≡ false) w
no_space w e k d lt = not-true _ (AllPass-from_list_all (λ b. not (b == 32)) w e k d lt)

-- the words that were joined are the words of the text
pub words_joined : (w : List ℕ) (ws : List (List ℕ)) → IsWord w → Every IsWord ws → words (joined (w ∷ ws)) ≡ w ∷ ws
unfolding words spaced
words_joined w [] one others = ap (slice_split is_space) (append-nil w) ∙ slice_split_none is_space w (no_space w one)
words_joined w (v ∷ vs) one others =
    slice_split_at is_space w 32 (v ++ flat_map spaced vs) (no_space w one) refl
    ∙ ap (λ (t : List (List ℕ)). w ∷ t) (words_joined v vs others.0 others.1)

name_word : (id : List ℕ) → IsEimId id → IsWord id
name_word id fits = lacks_passing is_name_octet 32 refl id fits.each

address_word_is : (address : List ℕ) → IsAddress address → IsWord (address_text address)
address_word_is address fits = lacks_passing is_address_octet 32 refl address fits.each

key_word_is : (key : List ℕ) → IsKey key → IsWord (key_text key)
key_word_is key fits = hex_lacks 32 refl key fits.each

number_word : (n : ℕ) → n < 2 ^ 64 → IsWord (decimal n)
number_word n small = decimal_lacks 32 (λ h. absurd (omega (arith, h))) n small

pick_is : (pick : Pick) → IsPick pick → IsWord (pick_text pick)
pick_is (At n) fits = number_word n (omega (arith, fits))
pick_is Last fits = refl

bytes_is : (bytes : List ℕ) → AllPass is_octet bytes → IsWord (bytes_text bytes)
bytes_is [] each = refl
bytes_is (b ∷ bs) each = hex_lacks 32 refl (b ∷ bs) each

tear_is : (tear : Tear) → IsWord (tear_text tear)
tear_is Old = refl
tear_is New = refl
tear_is Half = refl
tear_is Junk = refl

psmo_is : (op : Psmo) → IsPsmo op → IsWord (psmo_text op)
unfolding psmo_text IsPsmo
psmo_is (psmo_op.Enable iccid true) fits = hex_lacks 32 refl iccid fits.each
psmo_is (psmo_op.Enable iccid false) fits = hex_lacks 32 refl iccid fits.each
psmo_is (psmo_op.Disable iccid) fits = hex_lacks 32 refl iccid fits.each
psmo_is (psmo_op.Delete iccid) fits = hex_lacks 32 refl iccid fits.each
psmo_is psmo_op.List fits = refl

optional_is : (text : List ℕ → List ℕ) (Fits : List ℕ → Type 0) → ((x : List ℕ) → Fits x → IsWord (text x)) → (x : Option (List ℕ)) → IfSome x Fits → IsWord (optional_text text x)
optional_is text Fits is None fits = refl
optional_is text Fits is (Some x) fits = is x fits

eco_is : (op : Eco) → IsEco op → IsWord (eco_text op)
unfolding eco_text IsEco
eco_is (eco_op.Add id address key) fits =
    lacks_both 32 id (address_text address ++ key_text key) (name_word id fits.0) (lacks_both 32 (address_text address) (key_text key) (address_word_is address fits.1) (key_word_is key fits.2))
eco_is (eco_op.Update id address key) fits =
    lacks_both 32 id (optional_text address_text address ++ optional_text key_text key) (name_word id fits.0)
    (lacks_both 32 (optional_text address_text address) (optional_text key_text key) (optional_is address_text IsAddress address_word_is address fits.1) (optional_is key_text IsKey key_word_is key fits.2))
eco_is (eco_op.Delete id) fits = name_word id fits
eco_is eco_op.List fits = refl

pub each_word : {X : Type 0} (text : X → List ℕ) (Fits : X → Type 0) → ((x : X) → Fits x → IsWord (text x)) → (xs : List X) → Every Fits xs → Every IsWord (map text xs)
each_word text Fits is [] each = tt
each_word text Fits is (x ∷ xs) each = (is x each.0, each_word text Fits is xs each.1)

body_is : (b : Body) → IsBody b → Every IsWord (body_words b)
unfolding body_words IsBody
body_is (Psmos ops) fits = each_word psmo_text IsPsmo psmo_is ops fits.1
body_is (Ecos ops) fits = each_word eco_text IsEco eco_is ops fits.1

good_is : (good : Bool) → IsWord (good_text good)
good_is true = refl
good_is false = refl

probe_is : (passed : Bool) → IsWord (probe_text passed)
probe_is true = refl
probe_is false = refl

verdict_is : (good : Bool) → Every IsWord (verdict_words good)
verdict_is true = tt
verdict_is false = (refl, tt)

words_of_step : (l : Line) → IsStep l → words (step_text l) ≡ step_words l
unfolding step_text step_words IsStep
words_of_step (line.Eim id) fits = words_joined _ _ refl (name_word id fits, tt)
words_of_step (line.Initial id address key) fits = words_joined _ _ refl (name_word id fits.0, (address_word_is address fits.1, (key_word_is key fits.2, tt)))
words_of_step (line.Bind id association last) fits = words_joined _ _ refl (name_word id fits.0, (number_word association (omega (arith, fits.1.fits)), (number_word last (omega (arith, fits.2)), tt)))
words_of_step (line.Order id operations) fits = words_joined _ _ refl (name_word id fits.0, body_is operations fits.1)
words_of_step (line.Skip id) fits = words_joined _ _ refl (name_word id fits, tt)
words_of_step (line.Poll id) fits = words_joined _ _ refl (name_word id fits, tt)
words_of_step (line.Up pick) fits = words_joined _ _ refl (pick_is pick fits, tt)
words_of_step (line.Down pick good) fits = words_joined _ _ refl (pick_is pick fits, verdict_is good)
words_of_step (line.Load good bytes) fits = words_joined _ _ refl (good_is good, (bytes_is bytes fits, tt))
words_of_step line.Push fits = words_joined _ _ refl tt
words_of_step (line.Probe passed) fits = words_joined _ _ refl (probe_is passed, tt)
words_of_step line.Rollback fits = words_joined _ _ refl tt
words_of_step line.Restart fits = words_joined _ _ refl tt
words_of_step (line.Cut calls tear) fits = words_joined _ _ refl (number_word calls (omega (arith, fits)), (tear_is tear, tt))
words_of_step line.Boot fits = words_joined _ _ refl tt
words_of_step line.Show fits = words_joined _ _ refl tt
words_of_step (line.Kept id) fits = words_joined _ _ refl (name_word id fits, tt)
words_of_step (line.Detach at) fits = words_joined _ _ refl (number_word at (omega (arith, fits)), tt)
words_of_step line.Modems fits = words_joined _ _ refl tt

line_again : (l : Line) → IsStep l → step_line (step_words l) ≡ Some l
unfolding step_line eim_step network_step assistant_step device_step step_words IsStep eim_line initial_line bind_line order_line skip_line kept_line poll_line up_line down_line verdict_of load_line probe_line cut_line detach_line bare_line word_at last_word no_word choice_of
line_again (line.Eim id) fits = rw (eim_id_again id fits) refl
line_again (line.Initial id address key) fits = rw (eim_id_again id fits.0) (rw (address_word_again address fits.1) (rw (key_word_again key fits.2) refl))
line_again (line.Bind id association last) fits =
    rw (eim_id_again id fits.0)
    (rw (number_again 1 4294967295 association fits.1.some fits.1.fits (omega (arith, fits.1.fits)))
    (rw (number_again 0 greatest_counter last (omega arith) fits.2 (omega (arith, fits.2))) refl))
line_again (line.Order id operations) fits = rw (eim_id_again id fits.0) (rw (body_again operations fits.1) refl)
line_again (line.Skip id) fits = rw (eim_id_again id fits) refl
line_again (line.Poll id) fits = rw (eim_id_again id fits) refl
line_again (line.Up pick) fits = rw (pick_again pick fits) refl
line_again (line.Down pick true) fits = rw (pick_again pick fits) refl
line_again (line.Down pick false) fits = rw (pick_again pick fits) refl
line_again (line.Load true bytes) fits = rw (bytes_again bytes fits) refl
line_again (line.Load false bytes) fits = rw (bytes_again bytes fits) refl
line_again line.Push fits = refl
line_again (line.Probe true) fits = refl
line_again (line.Probe false) fits = refl
line_again line.Rollback fits = refl
line_again line.Restart fits = refl
line_again (line.Cut calls tear) fits = rw (number_again 0 4294967295 calls (omega arith) fits (omega (arith, fits))) (rw (tear_again tear) refl)
line_again line.Boot fits = refl
line_again line.Show fits = refl
line_again (line.Kept id) fits = rw (eim_id_again id fits) refl
line_again (line.Detach at) fits = rw (number_again 0 4294967295 at (omega arith) fits (omega (arith, fits))) refl
line_again line.Modems fits = refl

-- a line is read again from its text
pub step_again : (l : Line) → IsStep l → step_at (step_text l) ≡ Some l
unfolding step_at
step_again l fits = rw (words_of_step l fits) (line_again l fits)

signed_is : (enabled : Bool) (iccid name : List ℕ) → IsIccid iccid → IsNickname name → IsWord (sign_text enabled ++ (hex iccid ++ (codes "%" ++ hex name)))
signed_is true iccid name fits named = lacks_both 32 (hex iccid) (codes "%" ++ hex name) (hex_lacks 32 refl iccid fits.each) (hex_lacks 32 refl name (nickname_octets name named))
signed_is false iccid name fits named = lacks_both 32 (hex iccid) (codes "%" ++ hex name) (hex_lacks 32 refl iccid fits.each) (hex_lacks 32 refl name (nickname_octets name named))

profile_is : (p : Profile) → IsProfile p → IsWord (profile_text p)
unfolding profile_text
profile_is p fits = signed_is p.enabled p.iccid p.nickname fits.iccid fits.nickname

words_of_device : (d : Device) → IsDevice d → words (device_text d) ≡ device_words d
unfolding device_text device_words
words_of_device d fits = words_joined _ _ refl (hex_lacks 32 refl d.eid fits.eid.each, each_word profile_text IsProfile profile_is d.profiles fits.profiles.each)

-- a device is read again from its text
pub device_again : (d : Device) → IsDevice d → device_at (device_text d) ≡ Some d
unfolding device_at device_line device_of word_at
device_again d fits =
    rw (words_of_device d fits)
    (unfold device_words in
    (rw (eid_word_again d.eid fits.eid)
    (rw (list_again profile_word profile_text IsProfile profile_again 16 d.profiles fits.profiles.few fits.profiles.each)
    (only_if_again (each_pair are_profiles_apart d.profiles) d (pairs_again profile_pairs d.profiles fits.profiles.apart)))))
