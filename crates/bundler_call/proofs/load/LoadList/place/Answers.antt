-- A file that is put on the list goes last, with its number.
use Rattle.std.proofs.Common.{ap, inl, refl, sym, ◌∙◌}
use Rattle.bundle_tree_names.specs.FileName.{name_of}
use Rattle.bundle_order_graph.proofs.NodeLemmas.{on_err as holds_refused}
use Rattle.bundler_call.proofs.Leading.{listed, not_listed, placed_last, placed_numbered, names_of_entries}
use Rattle.bundler_call.proofs.load.LoadList.place.Goals as goal

pub returns-then-has-clause-placed : goal.returns-then-has-clause-placed
returns-then-has-clause-placed c = inl (listed c.requires.0 c.args.self.now.files (name_of c.args.file.now) c.args.id c.requires.2 c.requires.1 (sym c.has.ensures ∙ c.if-has.true), refl)

pub push-requires : goal.push-requires
push-requires c = sym c.has.ensures ∙ c.if-has.false

pub returns-clause-placed : goal.returns-clause-placed
returns-clause-placed c = placed_last c.requires.0 c.args.self.now.files c.push.new.self c.in_ok-clone.field-0 c.args.id (name_of c.args.file.now) c.requires.2 c.requires.1 (sym c.has.ensures ∙ c.if-has.false) c.in_ok-clone.ensures.cases c.in_ok-push.ensures.added

pub returns-clause-numbered : goal.returns-clause-numbered
returns-clause-numbered c = λ kept its numbered. placed_numbered kept c.args.self.now.files c.push.new.self c.in_ok-clone.field-0 c.args.id (name_of c.args.file.now) c.in_ok-push.ensures.added c.in_ok-clone.ensures.cases its numbered

pub returns-in_err-clone-clause-absent : goal.returns-in_err-clone-clause-absent
returns-in_err-clone-clause-absent c =
    holds_refused _ _ (not_listed c.requires.0 c.args.self.now.files (name_of c.args.file.now) c.args.id c.requires.2 c.requires.1 (sym c.has.ensures ∙ c.if-has.false))

pub returns-in_err-push-clause-absent : goal.returns-in_err-push-clause-absent
returns-in_err-push-clause-absent c =
    holds_refused _ _ (not_listed c.requires.0 c.args.self.now.files (name_of c.args.file.now) c.args.id c.requires.2 c.requires.1 (sym c.has.ensures ∙ c.if-has.false))

pub returns-in_err-clone-clause-unchanged : goal.returns-in_err-clone-clause-unchanged
returns-in_err-clone-clause-unchanged c = holds_refused _ _ refl

pub returns-in_err-push-clause-unchanged : goal.returns-in_err-push-clause-unchanged
returns-in_err-push-clause-unchanged c = holds_refused _ _ (ap names_of_entries c.in_err-push.ensures.unchanged)
