-- The pair that is put in counts first.
use Rattle.std.proofs.Common.{◌≡◌, List, not, bytes_eq, map, refl, sym, subst}
use Rattle.bundle_rules.specs.Rebuilds.{change_by, with_pair}
use Rattle.bundle_tree.specs.IdName.{IdName}
use Rattle.bundle_marks.specs.Idents.{ident_named}
use Rattle.bundle_marks.specs.declared.renaming.RenamingStep.{RenamingStep}
use Rattle.bundle_marks.specs.Renamings.{KeepsSymbols, renaming_pair}
use Rattle.bundle_marks.proofs.RenamingLemmas.{put-says, same-keeps, with_pair-keeps}
use Rattle.bundle_marks.proofs.renaming.Renaming.insert.Goals as goal

pub invariant_of-self : goal.invariant_of-self
invariant_of-self c = subst (λ (steps : List (IdName × RenamingStep)). KeepsSymbols (change_by (map renaming_pair steps))) (sym c.in_err-insert.ensures.err) c.self.invariant

pub invariant_of-self-2 : goal.invariant_of-self-2
invariant_of-self-2 c =
    let old = map renaming_pair c.self.inside.steps.entries in
    let spelled : c.ne-is_spelled_out.result ≡ not (bytes_eq c.args.from.symbol c.args.to.symbol) = cc in
    same-keeps (map renaming_pair c.insert.new.self.entries) (with_pair old (ident_named c.args.from) (ident_named c.args.to))
    (put-says c.self.inside.steps c.insert.new.self c.args.from c.args.to c.ne-is_spelled_out.result old spelled refl c.in_ok-insert.ensures.updates)
    (with_pair-keeps old (ident_named c.args.from) (ident_named c.args.to) c.self.invariant)

pub returns-clause-ok : goal.returns-clause-ok
returns-clause-ok c =
    let spelled : c.ne-is_spelled_out.result ≡ not (bytes_eq c.args.from.symbol c.args.to.symbol) = cc in
    put-says c.self.inside.steps c.insert.new.self c.args.from c.args.to c.ne-is_spelled_out.result c.args.self.now spelled c.self.view_is c.in_ok-insert.ensures.updates
