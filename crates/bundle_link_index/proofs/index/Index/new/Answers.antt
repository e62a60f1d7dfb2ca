use Rattle.std.proofs.Common.{◌↔◌, ℕ, sym, subst}
use Rattle.bundle_rules.specs.Faults.{StarsExternal}
use Rattle.bundle_link_index.specs.Graph.{Graph}
use Rattle.bundle_link_index.specs.Given.{Given}
use Rattle.bundle_link_index.specs.declared.numbers.LinkNumbers.{LinkNumbers}
use Rattle.bundle_link_index.specs.Linked.{IsLinkGraph}
use Rattle.bundle_link_index.specs.Numbered.{index_names, values_of}
use Rattle.bundle_link_index.proofs.index.Index.new.Goals as goal

pub returns : goal.returns
returns c = λ p w.
    let named = c.in_ok-named.named in
    record {
      names = subst (λ (numbers : LinkNumbers). IsLinkGraph p (index_names numbers) (values_of numbers) c.joined.result.search) (sym c.joined.ensures.numbers)
          (subst (λ (search : Graph). IsLinkGraph p (index_names named.numbers) (values_of named.numbers) search) (sym c.joined.ensures.search) (c.in_ok-named.ensures p w));
      outside = λ m. subst (λ (outside : Graph). ((v : ℕ) × Given outside (m, 0) v) ↔ StarsExternal p m) (sym c.joined.ensures.outside) (c.in_ok-outside.ensures p w m);
    }
