-- The flag of a run, against the definition that looks back at what was done.
use Rattle.std.proofs.Common.{◌<◌, ◌+◌, suc, length, get_or, drop, drop-cons, arith, ◌≡◌, ℕ, Bool, true, false, ◌&&◌, ◌||◌, cond, List, [], ◌∷◌, ◌++◌, map, refl, ◌∙◌, ap, sym, subst, Option, None, Some}
use Rattle.std.proofs.lemmas.List.{map_push}
use Rattle.std.proofs.lemmas.Bool.{cond-true, cond-false}
use Rattle.small_card.specs.Cards.{EimList}
use Rattle.small_card.specs.Profiles.{Done, enabled_of, arms_profile, arms, do_psmo}
use Rattle.small_card.specs.Packages.{is_done, run_psmos, execute}
use Rattle.small_card.specs.declared.types.Profile.{Profile}
use Rattle.small_card.specs.declared.types.Psmo.{Psmo}
use Rattle.small_card.specs.declared.types.Item.{Item}
use Rattle.small_card.specs.declared.types.Body.TheVariants.{Psmos}
use Rattle.small_card.proofs.Flags.{Tracks, tracks_more, flag_more}
use Rattle.small_card.proofs.ProfileLemmas.{enabled_there}
use Rattle.psmo_exec.specs.Flags.{is_there, arms_now, IsRun}

-- what was done so far, and what the table, the items and the flag say of it
pub record Ran (former : Option (List ℕ)) (start : List Profile) (ops left : List Psmo) (ps : List Profile) (items : List Item) (armed : Bool) : Type 0 where
  pub done : List Done
  pub tracks : (a : List ℕ) → former ≡ Some a → Tracks a done ps
  pub listed : items ≡ map (λ d. d.1) done
  pub flag : arms former done ≡ armed
  pub rest : run_psmos former done ps left ≡ run_psmos former [] start ops

no_flag : (former : Option (List ℕ)) → arms former [] ≡ false
unfolding arms arms_profile
no_flag None = refl
no_flag (Some a) = refl

pub begun : (former : Option (List ℕ)) (start : List Profile) (ops : List Psmo) → former ≡ enabled_of start → Ran former start ops ops start [] false
begun former start ops e = record {
  done = [];
  tracks = λ a k. record { there = enabled_there a start (sym e ∙ k) };
  listed = refl;
  flag = no_flag former;
  rest = refl;
}

-- the bridge: the flag is set where an operation arms the former profile while that is in the table
pub bridge : (former : Option (List ℕ)) (done : List Done) (ps : List Profile) (op : Psmo) (it : Item) → ((a : List ℕ) → former ≡ Some a → Tracks a done ps) → arms former (done ++ (op, it) ∷ []) ≡ arms former done || (is_there former ps && arms_now former op it)
unfolding arms is_there arms_now
bridge None done ps op it t = refl
bridge (Some a) done ps op it t = flag_more a done ps op it (t a refl)

abbrev flag_after : Option (List ℕ) → List Profile → Psmo → Item → Bool → Bool
flag_after former ps op it armed = armed || (is_there former ps && arms_now former op it)

next : (former : Option (List ℕ)) (start : List Profile) (ops left : List Psmo) (ps : List Profile) (items : List Item) (armed : Bool) (op : Psmo) → (r : Ran former start ops (op ∷ left) ps items armed) → is_done (do_psmo former r.done ps op).1 ≡ true → Ran former start ops left (do_psmo former r.done ps op).0 (items ++ (do_psmo former r.done ps op).1 ∷ []) (flag_after former ps op (do_psmo former r.done ps op).1 armed)
unfolding run_psmos
next former start ops left ps items armed op r d =
    let one : List Profile × Item = do_psmo former r.done ps op in
    record {
      done = r.done ++ (op, one.1) ∷ [];
      tracks = λ a k. tracks_more former a r.done ps op (r.tracks a k);
      listed = ap (λ is. is ++ one.1 ∷ []) r.listed ∙ sym (map_push (λ d. d.1) r.done (op, one.1));
      flag = bridge former r.done ps op one.1 r.tracks ∙ ap (λ b. b || (is_there former ps && arms_now former op one.1)) r.flag;
      rest = sym (cond-true (is_done one.1) _ _ d) ∙ r.rest;
    }

last : (former : Option (List ℕ)) (start : List Profile) (ops left : List Psmo) (ps : List Profile) (items : List Item) (armed : Bool) (op : Psmo) → (r : Ran former start ops (op ∷ left) ps items armed) → is_done (do_psmo former r.done ps op).1 ≡ false → IsRun former start ops (do_psmo former r.done ps op).0 (items ++ (do_psmo former r.done ps op).1 ∷ []) (flag_after former ps op (do_psmo former r.done ps op).1 armed)
unfolding run_psmos
last former start ops left ps items armed op r d =
    let one : List Profile × Item = do_psmo former r.done ps op in
    let now : List Done = r.done ++ (op, one.1) ∷ [] in
    let end : (one.0, now) ≡ run_psmos former [] start ops = sym (cond-false (is_done one.1) _ _ d) ∙ r.rest in
    record {
      table = ap (λ (e : List Profile × List Done). e.0) end;
      listed = ap (λ is. is ++ one.1 ∷ []) r.listed ∙ sym (map_push (λ d. d.1) r.done (op, one.1)) ∙ ap (λ (e : List Profile × List Done). map (λ d. d.1) e.1) end;
      flag = sym (bridge former r.done ps op one.1 r.tracks ∙ ap (λ b. b || (is_there former ps && arms_now former op one.1)) r.flag) ∙ ap (λ (e : List Profile × List Done). arms former e.1) end;
    }

left_at : (ops : List Psmo) (i : ℕ) (op : Psmo) → i < length ops → op ≡ get_or ops i op → drop i ops ≡ op ∷ drop (i + 1) ops
left_at ops i op lt e =
    let n : i + 1 ≡ suc i = omega arith in
    drop-cons ops i op lt ∙ ap (λ o. o ∷ drop (suc i) ops) (sym e) ∙ ap (λ k. op ∷ drop k ops) (sym n)

-- what an operation leaves is the definition's, whatever was done before that gives the flag
abbrev pub Performs : Option (List ℕ) → Bool → List Profile → Psmo → List Profile → Item → Type 0
Performs former armed ps op t it = (done : List Done) → arms former done ≡ armed → (t, it) ≡ do_psmo former done ps op

pub step_on : (former : Option (List ℕ)) (start : List Profile) (ops : List Psmo) (i : ℕ) (ps : List Profile) (items : List Item) (armed : Bool) (op : Psmo) (t : List Profile) (it : Item) → i < length ops → op ≡ get_or ops i op → Performs former armed ps op t it → is_done it ≡ true → Ran former start ops (drop i ops) ps items armed → Ran former start ops (drop (i + 1) ops) t (items ++ it ∷ []) (flag_after former ps op it armed)
step_on former start ops i ps items armed op t it lt e performs d ran =
    let r : Ran former start ops (op ∷ drop (i + 1) ops) ps items armed = subst (λ left. Ran former start ops left ps items armed) (left_at ops i op lt e) ran in
    subst (λ (q : List Profile × Item). is_done q.1 ≡ true → Ran former start ops (drop (i + 1) ops) q.0 (items ++ q.1 ∷ []) (flag_after former ps op q.1 armed)) (sym (performs r.done r.flag)) (next former start ops (drop (i + 1) ops) ps items armed op r) d

pub step_off : (former : Option (List ℕ)) (start : List Profile) (ops : List Psmo) (i : ℕ) (ps : List Profile) (items : List Item) (armed : Bool) (op : Psmo) (t : List Profile) (it : Item) → i < length ops → op ≡ get_or ops i op → Performs former armed ps op t it → is_done it ≡ false → Ran former start ops (drop i ops) ps items armed → IsRun former start ops t (items ++ it ∷ []) (flag_after former ps op it armed)
step_off former start ops i ps items armed op t it lt e performs d ran =
    let r : Ran former start ops (op ∷ drop (i + 1) ops) ps items armed = subst (λ left. Ran former start ops left ps items armed) (left_at ops i op lt e) ran in
    subst (λ (q : List Profile × Item). is_done q.1 ≡ false → IsRun former start ops q.0 (items ++ q.1 ∷ []) (flag_after former ps op q.1 armed)) (sym (performs r.done r.flag)) (last former start ops (drop (i + 1) ops) ps items armed op r) d

pub all_done : (former : Option (List ℕ)) (start : List Profile) (ops left : List Psmo) (ps : List Profile) (items : List Item) (armed : Bool) → left ≡ [] → Ran former start ops left ps items armed → IsRun former start ops ps items armed
unfolding run_psmos
all_done former start ops left ps items armed e ran =
    let r : Ran former start ops [] ps items armed = subst (λ rest. Ran former start ops rest ps items armed) e ran in
    record {
      table = ap (λ (q : List Profile × List Done). q.0) r.rest;
      listed = r.listed ∙ ap (λ (q : List Profile × List Done). map (λ d. d.1) q.1) r.rest;
      flag = sym r.flag ∙ ap (λ (q : List Profile × List Done). arms former q.1) r.rest;
    }

-- a whole run is that of the definition
pub run_execute : (former out : Option (List ℕ)) (start : List Profile) (ops : List Psmo) (ps : List Profile) (items : List Item) (armed : Bool) (eims : EimList) → former ≡ enabled_of start → IsRun former start ops ps items armed → out ≡ cond armed former None → execute start eims (Psmos ops) ≡ record { profiles = ps; eims = eims; items = items; armed = out }
unfolding execute
run_execute former out start ops ps items armed eims e h o =
    let flag : cond armed former None ≡ cond (arms former (run_psmos former [] start ops).1) former None = ap (λ b. cond {A = Option (List ℕ)} b former None) h.flag in
    rw (← e) (rw (o, flag, h.table, h.listed) refl)
