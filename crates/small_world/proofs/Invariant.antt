-- What holds of every world: the history may go on, each result is pending or received, and all
-- messages are true of it. Stated over the fields that lines change.
use Rattle.std.proofs.Common.{◌≡◌, ◌≢◌, ◌⊎◌, inl, inr, ℕ, List, [], ◌++◌, map, refl, ◌∙◌, sym, cond, Option, None, Some}
use Rattle.std.specs.Prelude.{IfSome}
use Rattle.std.proofs.lemmas.Bool.{cond_both}
use Rattle.sgp_values.specs.Eids.{IsEid}
use Rattle.sgp_values.specs.Ranges.{IsEimId}
use Rattle.small_card.specs.Lists.{Every}
use Rattle.small_card.specs.Histories.{History, card_of, with_unit}
use Rattle.small_card.specs.Legal.{May, IsLegal}
use Rattle.small_card.specs.Ranges.{IsNumber, IsCounter, IsBody, IsSigned, IsRefused}
use Rattle.small_card.specs.Units.{CardUnit, initial, load, rollback, remove}
use Rattle.small_card.specs.declared.types.PackageResult.{PackageResult}
use Rattle.small_card.specs.declared.types.Signed.{Signed}
use Rattle.small_card.proofs.ListLemmas.{every_mono, every_append, every_map, pair_map}
use Rattle.package_codec.specs.Replies.{grown}
use Rattle.package_codec.specs.Spelling.{signed}
use Rattle.esipa_codec.specs.Eims.{EimState, Order, IsBinding}
use Rattle.esipa_codec.specs.declared.messages.Post.{Post}
use Rattle.esipa_codec.specs.declared.messages.ToEim.{ToEim}
use Rattle.esipa_codec.specs.declared.messages.ToEim.TheVariants as up
use Rattle.esipa_codec.specs.declared.messages.ToIpa.{ToIpa}
use Rattle.esipa_codec.specs.declared.messages.ToIpa.TheVariants as down
use Rattle.small_card.proofs.Validity.{more_legal}
use Rattle.small_world.specs.Forms.{newest, forms}
use Rattle.small_world.specs.Has.{Has}
use Rattle.small_world.specs.Lossless.{AreApart}
use Rattle.small_world.specs.Network.{is_named, at_eim}
use Rattle.small_world.specs.Stepping.{attempt}
use Rattle.small_world.specs.Worlds.{SmallWorld}
use Rattle.small_world.specs.declared.reply.Reply.{Reply}
use Rattle.small_world.proofs.HasLemmas.{has_map}
use Rattle.small_world.proofs.Keeping.{IsReceived, IsAcked, Kept, Truthful, IsSafe, more_kept, forms_more, truthful_more}

-- a message that was sent is in range, and a result is a form
abbrev pub IsSent : List PackageResult → ToEim → Type 0
IsSent fs (up.Poll eid) = IsEid eid
IsSent fs (up.Result r) = Has r fs
IsSent fs (up.Refused f) = IsRefused f

-- octets that spell a signed package in range
abbrev pub IsSpelled : List ℕ → Type 0
IsSpelled bytes = (s : Signed) × IsSigned s × (bytes ≡ signed s)

-- a package that was sent is in range, and an ack that was sent has the number of what an eIM received
abbrev pub IsAnswered : List EimState → ToIpa → Type 0
IsAnswered es (down.Package bytes) = IsSpelled bytes
IsAnswered es down.Nothing = Unit {0}
IsAnswered es (down.Ack seq) = IsAcked es seq

-- a unit that may happen next, and takes no result away that no eIM received
pub record MayCome (h : History) (es : List EimState) (u : CardUnit) : Type 0 where
  pub may : May h u
  pub safe : IsSafe es u

-- an order is in range
pub record IsOrder (o : Order) : Type 0 where
  pub association : IsNumber o.association
  pub counter : IsCounter o.counter
  pub body : IsBody o.body

-- an eIM whose orders are in range
pub record IsFit (e : EimState) : Type 0 where
  pub id : IsEimId e.id
  pub eid : IsEid e.eid
  pub bound : IfSome e.bound IsBinding
  pub orders : Every IsOrder e.orders

-- the invariant of all lines
pub record Keeps (h : History) (a : Option CardUnit) (ups : List Post) (downs : List Reply) (es : List EimState) : Type 0 where
  pub legal : IsLegal h
  pub fresh : h.start.card.results.pending ≡ []
  pub eid : IsEid h.start.card.eid
  pub tried : IfSome a (MayCome h es)
  pub kept : Kept es (card_of h).results.pending (newest h)
  pub sent : Every (λ p. IsSent (forms h) p.message) ups
  pub truthful : Truthful (forms h) es
  pub acked : Every (λ r. IsAnswered es r.message) downs
  pub apart : AreApart es
  pub fit : Every IsFit es

abbrev pub KeepsWorld : SmallWorld → Type 0
KeepsWorld w = Keeps w.history (attempt w.marks) w.to_eims w.to_ipa w.eims

-- the history grows
sent_more : (h : History) (u : CardUnit) (m : ToEim) → IsSent (forms h) m → IsSent (forms (with_unit h u)) m
sent_more h u (up.Poll eid) s = s
sent_more h u (up.Result r) s = forms_more h u r s
sent_more h u (up.Refused f) s = s

pub sent_grown : (h : History) (o : Option CardUnit) (m : ToEim) → IsSent (forms h) m → IsSent (forms (grown o h)) m
sent_grown h None m s = s
sent_grown h (Some u) m s = sent_more h u m s

more_fresh : (h : History) (u : CardUnit) → h.start.card.results.pending ≡ [] → (with_unit h u).start.card.results.pending ≡ []
unfolding with_unit
more_fresh h u e = e

more_eid : (h : History) (u : CardUnit) → IsEid h.start.card.eid → IsEid (with_unit h u).start.card.eid
unfolding with_unit
more_eid h u e = e

pub keeps_grown : (h : History) (a o : Option CardUnit) (ups : List Post) (downs : List Reply) (es : List EimState) → IfSome o (MayCome h es) → Keeps h a ups downs es → Keeps (grown o h) None ups downs es
keeps_grown h a None ups downs es m k = record { legal = k.legal; fresh = k.fresh; eid = k.eid; tried = tt; kept = k.kept; sent = k.sent; truthful = k.truthful; acked = k.acked; apart = k.apart; fit = k.fit }
keeps_grown h a (Some u) ups downs es m k = record {
  legal = more_legal h u k.legal m.may;
  fresh = more_fresh h u k.fresh;
  eid = more_eid h u k.eid;
  tried = tt;
  kept = more_kept h u es k.legal k.fresh m.may k.truthful m.safe k.kept;
  sent = every_mono (λ p. IsSent (forms h) p.message) (λ p. IsSent (forms (with_unit h u)) p.message) (λ p s. sent_more h u p.message s) ups k.sent;
  truthful = truthful_more h u es k.truthful;
  acked = k.acked;
  apart = k.apart;
  fit = k.fit;
}

-- another attempt
pub keeps_tried : (h : History) (a o : Option CardUnit) (ups : List Post) (downs : List Reply) (es : List EimState) → IfSome o (MayCome h es) → Keeps h a ups downs es → Keeps h o ups downs es
keeps_tried h a o ups downs es m k = record { legal = k.legal; fresh = k.fresh; eid = k.eid; tried = m; kept = k.kept; sent = k.sent; truthful = k.truthful; acked = k.acked; apart = k.apart; fit = k.fit }

-- more messages to eIMs
pub keeps_up : (h : History) (a : Option CardUnit) (ups more : List Post) (downs : List Reply) (es : List EimState) → Every (λ p. IsSent (forms h) p.message) more → Keeps h a ups downs es → Keeps h a (ups ++ more) downs es
keeps_up h a ups more downs es m k = record { legal = k.legal; fresh = k.fresh; eid = k.eid; tried = k.tried; kept = k.kept; sent = every_append (λ p. IsSent (forms h) p.message) ups more k.sent m; truthful = k.truthful; acked = k.acked; apart = k.apart; fit = k.fit }

-- more messages to the assistant
pub keeps_down : (h : History) (a : Option CardUnit) (ups : List Post) (downs more : List Reply) (es : List EimState) → Every (λ r. IsAnswered es r.message) more → Keeps h a ups downs es → Keeps h a ups (downs ++ more) es
keeps_down h a ups downs more es m k = record { legal = k.legal; fresh = k.fresh; eid = k.eid; tried = k.tried; kept = k.kept; sent = k.sent; truthful = k.truthful; acked = every_append (λ r. IsAnswered es r.message) downs more k.acked m; apart = k.apart; fit = k.fit }

-- what an eIM has received it keeps
pub record HasGrown (d e : EimState) : Type 0 where
  pub id : e.id ≡ d.id
  pub received : (r : PackageResult) → Has r d.received → Has r e.received

abbrev pub Grow : List EimState → List EimState → Type 0
Grow ds es = (d : EimState) → Has d ds → (e : EimState) × Has e es × HasGrown d e

received_grows : (ds es : List EimState) (r : PackageResult) → Grow ds es → IsReceived ds r → IsReceived es r
received_grows ds es r g k = let n = g k.at k.there in record { at = n.0; there = n.1; received = n.2.received r k.received }

acked_grows : (ds es : List EimState) (seq : ℕ) → Grow ds es → IsAcked ds seq → IsAcked es seq
acked_grows ds es seq g k = let n = g k.at k.there in record { at = n.0; there = n.1; form = k.form; received = n.2.received k.form k.received; number = k.number }

answered_grows : (ds es : List EimState) (m : ToIpa) → Grow ds es → IsAnswered ds m → IsAnswered es m
answered_grows ds es (down.Package bytes) g k = k
answered_grows ds es down.Nothing g k = tt
answered_grows ds es (down.Ack seq) g k = acked_grows ds es seq g k

safe_grows : (ds es : List EimState) (u : CardUnit) → Grow ds es → IsSafe ds u → IsSafe es u
safe_grows ds es (initial i a k) g s = tt
safe_grows ds es (load p) g s = tt
safe_grows ds es rollback g s = tt
safe_grows ds es (remove seq) g s = acked_grows ds es seq g s

tried_grows : (h : History) (ds es : List EimState) (o : Option CardUnit) → Grow ds es → IfSome o (MayCome h ds) → IfSome o (MayCome h es)
tried_grows h ds es None g t = tt
tried_grows h ds es (Some u) g t = record { may = t.may; safe = safe_grows ds es u g t.safe }

-- the eIMs change, and keep what they received
pub keeps_eims : (h : History) (a : Option CardUnit) (ups : List Post) (downs : List Reply) (ds es : List EimState) → Grow ds es → Truthful (forms h) es → AreApart es → Every IsFit es → Keeps h a ups downs ds → Keeps h a ups downs es
keeps_eims h a ups downs ds es g t d f k = record {
  legal = k.legal;
  fresh = k.fresh;
  eid = k.eid;
  tried = tried_grows h ds es a g k.tried;
  kept = every_mono (λ r. Has r (card_of h).results.pending ⊎ IsReceived ds r) (λ r. Has r (card_of h).results.pending ⊎ IsReceived es r) (λ r p. elim p [ inl i ↦ inl i | inr i ↦ inr (received_grows ds es r g i) ]) (newest h) k.kept;
  sent = k.sent;
  truthful = t;
  acked = every_mono (λ r. IsAnswered ds r.message) (λ r. IsAnswered es r.message) (λ r s. answered_grows ds es r.message g s) downs k.acked;
  apart = d;
  fit = f;
}

-- what an eIM received are forms, each of its identifier
abbrev pub IsTrue : List PackageResult → EimState → Type 0
IsTrue fs e = Every (λ r. Has r fs × (r.eim ≡ e.id)) e.received

-- a change of an eIM that keeps what it received, its truth and its ranges
pub record IsChange (fs : List PackageResult) (change : EimState → EimState) : Type 0 where
  pub grows : (e : EimState) → HasGrown e (change e)
  pub truth : (e : EimState) → IsTrue fs e → IsTrue fs (change e)
  pub fits : (e : EimState) → IsFit e → IsFit (change e)

-- it changes one eIM alone
abbrev pub changed : List ℕ → (EimState → EimState) → EimState → EimState
changed id change e = cond (is_named id e) (change e) e

one_grows : (fs : List PackageResult) (id : List ℕ) (change : EimState → EimState) (e : EimState) → IsChange fs change → HasGrown e (changed id change e)
one_grows fs id change e c = cond_both (is_named id e) (change e) e (HasGrown e) (λ _. c.grows e) (λ _. record { id = refl; received = λ r i. i })

-- one eIM of the list changes
pub at_eim_keeps : (h : History) (a : Option CardUnit) (ups : List Post) (downs : List Reply) (es : List EimState) (id : List ℕ) (change : EimState → EimState) → IsChange (forms h) change → Keeps h a ups downs es → Keeps h a ups downs (at_eim id change es)
unfolding at_eim
at_eim_keeps h a ups downs es id change c k =
    let one : EimState → EimState = changed id change in
    keeps_eims h a ups downs es (map one es)
    (λ d i. (one d, has_map one d es i, one_grows (forms h) id change d c))
    (every_map (IsTrue (forms h)) (IsTrue (forms h)) one (λ e t. cond_both (is_named id e) (change e) e (IsTrue (forms h)) (λ _. c.truth e t) (λ _. t)) es k.truthful)
    (pair_map (λ d e. d.id ≢ e.id) (λ d e. d.id ≢ e.id) one (λ d e n s. n (sym (one_grows (forms h) id change d c).id ∙ s ∙ (one_grows (forms h) id change e c).id)) es k.apart)
    (every_map IsFit IsFit one (λ e f. cond_both (is_named id e) (change e) e IsFit (λ _. c.fits e f) (λ _. f)) es k.fit)
    k
