use Rattle.std.proofs.Common.{◌≡◌, ◌∷◌, ap, sym, ◌∙◌}
use Rattle.std.specs.Prelude.{map}
use Rattle.std.proofs.lemmas.Map.Iter.{rest_more, rest_all}
use Rattle.bundle_merge_modules.specs.Groups.{put_all}
use Rattle.bundle_merge_modules.specs.Calls.{group_items, groups_of}
use Rattle.bundle_merge_modules.proofs.part.ModuleItems.append_noted.Goals as goal

pub loop-id-preserved : goal.loop-id-preserved
loop-id-preserved g c =
    let e : c.loop-id.id-iterator ≡ (c.in-Some.id, c.in-Some.items) ∷ c.next.new.self = rest_more (λ p. p) _ _ _ (c.in-Some.id, c.in-Some.items) c.in-Some.is c.next.ensures.steps in
    record {
      put =
          ap (λ done. put_all done (map group_items c.next.new.self)) c.in_ok-extend_noted.ensures.put
          ∙ ap (λ l. put_all (groups_of c.loop-id.self) (map group_items l)) (sym e)
          ∙ c.loop-id.invariant.put;
      undone = c.in_ok-extend_noted.ensures.undone ∙ c.loop-id.invariant.undone;
    }

pub returns : goal.returns
returns g c = record {
  put = ap (λ l. put_all (groups_of c.loop-id.self) (map group_items l)) (sym (rest_all (λ p. p) c.loop-id.id-iterator _ _ c.in-None.is c.next.ensures.steps)) ∙ c.loop-id.invariant.put;
  undone = c.loop-id.invariant.undone;
}
