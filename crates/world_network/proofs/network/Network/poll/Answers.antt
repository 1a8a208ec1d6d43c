use Rattle.std.proofs.Common.{◌≡◌, ◌<◌, ◌∙◌, ap, sym, subst}
use Rattle.small_world.specs.Lines.{acted}
use Rattle.small_world.specs.Octets.{octets_sent, most_octets_sent}
use Rattle.std.specs.List.{list_any}
use Rattle.small_world.specs.Network.{is_known}
use Rattle.world_network.specs.Managers.{has_id}
use Rattle.small_world.specs.Worlds.{SmallWorld}
use Rattle.world_network.specs.Networks.{Parts, IsNetwork, parts_of}
use Rattle.world_network.proofs.Places.{handed_on, known_same}
use Rattle.world_network.proofs.Standing.{polled_known, polled_unknown}
use Rattle.world_network.proofs.network.Network.poll.Goals as goal

pub returns-then-is_there-clause-known : goal.returns-then-is_there-clause-known
returns-then-is_there-clause-known c = λ w h.
    let k : IsNetwork (parts_of c.self.inside) w = subst (λ (p : Parts). IsNetwork p w) (sym c.self.view_is) h in
    let known : c.is_there.result ≡ is_known c.args.id w.eims = c.is_there.ensures ∙ ap (list_any (has_id c.args.id)) c.deref.ensures.value ∙ known_same c.args.id c.self.inside.managers.items w.eims k.eims in
    sym c.if-is_there.true ∙ known

pub returns-then-is_there-clause-stands : goal.returns-then-is_there-clause-stands
unfolding acted
returns-then-is_there-clause-stands c = λ w h.
    let k : IsNetwork (parts_of c.self.inside) w = subst (λ (p : Parts). IsNetwork p w) (sym c.self.view_is) h in
    let known : c.is_there.result ≡ is_known c.args.id w.eims = c.is_there.ensures ∙ ap (list_any (has_id c.args.id)) c.deref.ensures.value ∙ known_same c.args.id c.self.inside.managers.items w.eims k.eims in
    subst (λ (v : SmallWorld). IsNetwork c.ask.new.self v) (sym (polled_known w c.args.id (sym known ∙ c.if-is_there.true))) (c.in_ok-ask.ensures.stands w h)

pub returns-in_err-ask-clause-limit : goal.returns-in_err-ask-clause-limit
unfolding acted
returns-in_err-ask-clause-limit c = λ w h e.
    let k : IsNetwork (parts_of c.self.inside) w = subst (λ (p : Parts). IsNetwork p w) (sym c.self.view_is) h in
    let known : c.is_there.result ≡ is_known c.args.id w.eims = c.is_there.ensures ∙ ap (list_any (has_id c.args.id)) c.deref.ensures.value ∙ known_same c.args.id c.self.inside.managers.items w.eims k.eims in
    subst (λ (v : SmallWorld). most_octets_sent < octets_sent v) (sym (polled_known w c.args.id (sym known ∙ c.if-is_there.true))) (c.in_err-ask.ensures.limit w h (handed_on c.from_residual.result c.in_err-ask.field-0.0 _ c.from_residual.ensures.1 e))

pub returns-clause-known : goal.returns-clause-known
returns-clause-known c = λ w h.
    let k : IsNetwork (parts_of c.self.inside) w = subst (λ (p : Parts). IsNetwork p w) (sym c.self.view_is) h in
    let known : c.is_there.result ≡ is_known c.args.id w.eims = c.is_there.ensures ∙ ap (list_any (has_id c.args.id)) c.deref.ensures.value ∙ known_same c.args.id c.self.inside.managers.items w.eims k.eims in
    sym c.if-is_there.false ∙ known

pub returns-clause-stands : goal.returns-clause-stands
unfolding acted
returns-clause-stands c = λ w h.
    let k : IsNetwork (parts_of c.self.inside) w = subst (λ (p : Parts). IsNetwork p w) (sym c.self.view_is) h in
    let known : c.is_there.result ≡ is_known c.args.id w.eims = c.is_there.ensures ∙ ap (list_any (has_id c.args.id)) c.deref.ensures.value ∙ known_same c.args.id c.self.inside.managers.items w.eims k.eims in
    subst (λ (v : SmallWorld). IsNetwork c.args.self.now v) (sym (polled_unknown w c.args.id (sym known ∙ c.if-is_there.false))) h
