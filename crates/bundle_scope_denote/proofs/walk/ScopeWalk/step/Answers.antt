-- Each element takes the walk one place on.
use Rattle.std.proofs.Common.{Some, ap, sym, ◌∙◌, map}
use Rattle.bundle_syntax.specs.Item.{item_of}
use Rattle.bundle_scope_denote.proofs.StepLemmas.{on_ok, item_at, begun_in_pieces, worded_by, holed, ended, occurred}
use Rattle.bundle_scope_denote.proofs.TidyLemmas.{begun-tidy}
use Rattle.bundle_scope_denote.proofs.walk.ScopeWalk.step.Goals as goal

pub returns-in-Open-clause-goes : goal.returns-in-Open-clause-goes
returns-in-Open-clause-goes c = on_ok c.begin.result (begun_in_pieces c.args.self.now c.begin.new.self c.args.pieces.now c.args.place c.in-Open.field _ c.requires.before (item_at _ _ _ c.requires.within c.index-pieces-place.is ∙ ap (λ piece. Some (item_of piece)) c.in-Open.is)) c.begin.ensures

pub returns-then-is_occurrence-clause-goes : goal.returns-then-is_occurrence-clause-goes
returns-then-is_occurrence-clause-goes c = on_ok c.name.result (occurred c.args.self.now c.name.new.self (map item_of c.args.pieces.now) c.args.place c.in-Ident.field c.in-Ident.ctxt c.in-Ident.sym.now c.in-Ident.role c.requires.before (item_at _ _ _ c.requires.within c.index-pieces-place.is ∙ ap (λ piece. Some (item_of piece)) c.in-Ident.is) (sym c.is_occurrence.ensures ∙ c.if-is_occurrence.true)) c.name.ensures

pub returns-else-is_occurrence-clause-goes : goal.returns-else-is_occurrence-clause-goes
returns-else-is_occurrence-clause-goes c = worded_by c.args.self.now (map item_of c.args.pieces.now) c.args.place c.in-Ident.field c.in-Ident.ctxt c.in-Ident.sym.now c.in-Ident.role c.requires.before (item_at _ _ _ c.requires.within c.index-pieces-place.is ∙ ap (λ piece. Some (item_of piece)) c.in-Ident.is) (sym c.is_occurrence.ensures ∙ c.if-is_occurrence.false)

pub returns-in-Hole-clause-goes : goal.returns-in-Hole-clause-goes
returns-in-Hole-clause-goes c = holed c.args.self.now (map item_of c.args.pieces.now) c.args.place c.in-Hole.field c.requires.before (item_at _ _ _ c.requires.within c.index-pieces-place.is ∙ ap (λ piece. Some (item_of piece)) c.in-Hole.is)

pub returns-in-Close-clause-goes : goal.returns-in-Close-clause-goes
returns-in-Close-clause-goes c = ended c.args.self.now c.end.new.self (map item_of c.args.pieces.now) c.args.place c.requires.before (item_at _ _ _ c.requires.within c.index-pieces-place.is ∙ ap (λ piece. Some (item_of piece)) c.in-Close.is) c.end.ensures

pub returns-in-Open-clause-tidy : goal.returns-in-Open-clause-tidy
returns-in-Open-clause-tidy c = on_ok c.begin.result (begun-tidy c.args.self.now c.begin.new.self (map item_of c.args.pieces.now) c.args.place c.in-Open.field _ _ c.requires.before c.requires.tidy) c.begin.ensures
