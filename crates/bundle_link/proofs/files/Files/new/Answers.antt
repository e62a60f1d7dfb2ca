use Rattle.std.proofs.Common.{List, ℕ, sym, ◌∙◌, subst}
use Rattle.bundle_link_index.specs.Numbered.{HasNoDoubles}
use Rattle.bundle_link.proofs.NumberLemmas.{once-same}
use Rattle.bundle_link.specs.Files.{numbers_of}
use Rattle.bundle_link.proofs.files.Files.new.Goals as goal

pub returns-clause-noted : goal.returns-clause-noted
returns-clause-noted c = λ p w.
    let ids = c.in_ok-ids.ensures ∙ once-same (numbers_of c.args.files.now) w.once in
    record {
      files = w;
      ids = ids;
      graph = c.in_ok-graph.ensures (subst (λ (l : List ℕ). HasNoDoubles l) (sym ids) w.once);
    }
