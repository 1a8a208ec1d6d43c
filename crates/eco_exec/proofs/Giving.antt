-- The associations that a package gives out are new.
use Rattle.std.proofs.Common.{◌≡◌, ℕ, List, [], ◌∷◌, ◌++◌, flat_map, append-nil, ap, sym, subst, ◌∙◌}
use Rattle.std.proofs.lemmas.List.Concat.{flat_map-append}
use Rattle.small_card.specs.Cards.{EimList}
use Rattle.small_card.specs.EimOperations.{do_eco}
use Rattle.small_card.specs.Packages.{run_ecos}
use Rattle.small_card.specs.declared.types.Eco.{Eco}
use Rattle.small_card.specs.declared.types.Item.{Item}
use Rattle.small_card.proofs.ListLemmas.{every_all}
use Rattle.small_card.proofs.Runs.{ecos_keep}
use Rattle.eim_table.specs.Numbers.{given_by, AreNew}
use Rattle.eim_table.proofs.Numbering.{none_new, eco_new, new_join}

given_more : (done : List Item) (it : Item) → flat_map given_by (done ++ it ∷ []) ≡ flat_map given_by done ++ given_by it
given_more done it = flat_map-append given_by done (it ∷ []) ∙ ap (λ (ns : List ℕ). flat_map given_by done ++ ns) (append-nil (given_by it))

pub run_new : (ops : List Eco) (ms : EimList) → AreNew ms.next (run_ecos [] ms ops).0.next (flat_map given_by (run_ecos [] ms ops).1)
run_new ops ms = ecos_keep (λ done ns. AreNew ms.next ns.next (flat_map given_by done)) (λ _. Unit {0})
    (λ done ns op _ h. subst (λ (numbers : List ℕ). AreNew ms.next (do_eco ns op).0.next numbers) (sym (given_more done (do_eco ns op).1))
    (new_join ms.next ns.next (do_eco ns op).0.next (flat_map given_by done) (given_by (do_eco ns op).1) h (eco_new ns op)))
    ops [] ms (every_all (λ _. Unit {0}) (λ _. tt) ops) (none_new ms.next)
