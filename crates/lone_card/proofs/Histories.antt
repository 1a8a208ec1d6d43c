-- What one more frame adds to a history and to what is sent.
use Rattle.std.proofs.Common.{◌≡◌, ℕ, List, [], ◌∷◌, ◌++◌, Option, Some, None, refl, ap, sym, ◌∙◌, append-nil, append_assoc}
use Rattle.std.specs.Prelude.{◌≢◌, option_map}
use Rattle.small_card.specs.Histories.{History}
use Rattle.small_card.specs.declared.types.Answer.TheVariants.{Personalised}
use Rattle.es10_codec.specs.Reading.{command_at}
use Rattle.lone_card.specs.Cards.{started, reply_of, after_command, reply_to, after_frame, history_of, sent_for, output, Begins}

pub history_of-push : (o : Option History) (fs : List (List ℕ)) (f : List ℕ) → history_of o (fs ++ f ∷ []) ≡ after_frame (history_of o fs) f
unfolding history_of
history_of-push o [] f = refl
history_of-push o (g ∷ gs) f = history_of-push (after_frame o g) gs f

pub output-push : (o : Option History) (fs : List (List ℕ)) (f : List ℕ) → output o (fs ++ f ∷ []) ≡ output o fs ++ sent_for (reply_to (history_of o fs) f)
unfolding history_of output
output-push o [] f = append-nil (sent_for (reply_to o f))
output-push o (g ∷ gs) f =
    ap (λ (z : List ℕ). sent_for (reply_to o g) ++ z) (output-push (after_frame o g) gs f)
    ∙ sym (append_assoc (sent_for (reply_to o g)) (output (after_frame o g) gs) (sent_for (reply_to (history_of (after_frame o g) gs) f)))

pub begins-push : (o : Option History) (fs : List (List ℕ)) (f : List ℕ) → Begins o fs → reply_to (history_of o fs) f ≢ None → Begins o (fs ++ f ∷ [])
unfolding history_of
begins-push (Some h) fs f b some = tt
begins-push None [] f b some = some
begins-push None (g ∷ gs) f b some = b

-- the history of a card goes on
pub later_some : (h : History) (fs : List (List ℕ)) → (h' : History) × (history_of (Some h) fs ≡ Some h')
unfolding history_of after_frame
later_some h [] = (h, refl)
later_some h (f ∷ fs) = later_some (after_command h (command_at f)) fs

pub some_reply : (o : Option History) (h : History) (f : List ℕ) → o ≡ Some h → reply_to o f ≡ None → ⊥
unfolding reply_to
some_reply o h f some none =
    let same : Some (reply_of h (command_at f)) ≡ None = ap (λ (x : Option History). reply_to x f) (sym some) ∙ none in
    absurd cc

started_some : (o : Option History) → option_map (λ h. Personalised) o ≢ None → (h : History) × (o ≡ Some h)
started_some (Some h) some = (h, refl)
started_some None some = absurd (some refl)

-- a first frame that has a reply makes a card
first_some : (f : List ℕ) → reply_to None f ≢ None → (h : History) × (after_frame None f ≡ Some h)
unfolding reply_to after_frame
first_some f some = started_some (started (command_at f)) some

-- only the first frame may have no reply
pub no_reply_first : (fs : List (List ℕ)) (f : List ℕ) → Begins None fs → reply_to (history_of None fs) f ≡ None → (fs ≡ []) × (reply_to None f ≡ None)
unfolding history_of
no_reply_first [] f b none = (refl, none)
no_reply_first (g ∷ gs) f b none =
    let (h, made) = first_some g b in
    let (h', then) = later_some h gs in
    absurd (some_reply (history_of (after_frame None g) gs) h' f (ap (λ (x : Option History). history_of x gs) made ∙ then) none)
