use Rattle.std.proofs.Common.{◌≡◌, ◌∙◌, ap, sym, subst, not}
use Rattle.std.specs.List.{list_any}
use Rattle.small_world.specs.Network.{is_known}
use Rattle.world_network.specs.Managers.{has_id}
use Rattle.world_network.specs.Networks.{Parts, IsNetwork, parts_of}
use Rattle.world_network.proofs.Places.{known_same}
use Rattle.world_network.proofs.Standing.{joined_there, joined_new}
use Rattle.world_network.proofs.network.Network.join.Goals as goal

pub returns-then-is_there-clause-joined : goal.returns-then-is_there-clause-joined
returns-then-is_there-clause-joined c = λ w h.
    let k : IsNetwork (parts_of c.self.inside) w = subst (λ (p : Parts). IsNetwork p w) (sym c.self.view_is) h in
    let known : c.is_there.result ≡ is_known c.args.id w.eims = c.is_there.ensures ∙ ap (list_any (has_id c.args.id)) c.deref.ensures.value ∙ known_same c.args.id c.self.inside.managers.items w.eims k.eims in
    ap not (sym c.if-is_there.true ∙ known)

pub returns-then-is_there-clause-stands : goal.returns-then-is_there-clause-stands
returns-then-is_there-clause-stands c = λ w h.
    let k : IsNetwork (parts_of c.self.inside) w = subst (λ (p : Parts). IsNetwork p w) (sym c.self.view_is) h in
    let known : c.is_there.result ≡ is_known c.args.id w.eims = c.is_there.ensures ∙ ap (list_any (has_id c.args.id)) c.deref.ensures.value ∙ known_same c.args.id c.self.inside.managers.items w.eims k.eims in
    joined_there c.args.self.now w c.args.id h (sym known ∙ c.if-is_there.true)

pub returns-clause-joined : goal.returns-clause-joined
returns-clause-joined c = λ w h.
    let k : IsNetwork (parts_of c.self.inside) w = subst (λ (p : Parts). IsNetwork p w) (sym c.self.view_is) h in
    let known : c.is_there.result ≡ is_known c.args.id w.eims = c.is_there.ensures ∙ ap (list_any (has_id c.args.id)) c.deref.ensures.value ∙ known_same c.args.id c.self.inside.managers.items w.eims k.eims in
    ap not (sym c.if-is_there.false ∙ known)

pub returns-clause-stands : goal.returns-clause-stands
returns-clause-stands c = λ w h.
    let k : IsNetwork (parts_of c.self.inside) w = subst (λ (p : Parts). IsNetwork p w) (sym c.self.view_is) h in
    let known : c.is_there.result ≡ is_known c.args.id w.eims = c.is_there.ensures ∙ ap (list_any (has_id c.args.id)) c.deref.ensures.value ∙ known_same c.args.id c.self.inside.managers.items w.eims k.eims in
    joined_new (parts_of c.self.inside) w c.add.new.managers.items c.args.id k (sym known ∙ c.if-is_there.false) (c.in_ok-add.ensures.ok w.eims k.eims)
