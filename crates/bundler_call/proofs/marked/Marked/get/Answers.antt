-- A text with a mark stands where the mark stands with the place of the text.
use Rattle.std.proofs.Common.{◌∙◌, ap, position, string_bytes, subst, sym}
use Rattle.bundler_call.specs.Marks.{is_same_mark}
use Rattle.bundler_call.specs.Placed.{StandOnce}
use Rattle.bundler_call.proofs.Holding.{marked_found, marked_nowhere, marked_once, on_some_of}
use Rattle.bundler_call.proofs.marked.Marked.get.Goals as goal

pub returns-in-None-clause-place : goal.returns-in-None-clause-place
returns-in-None-clause-place g c =
    let eq = g.T.PartialEq.eq in
    sym (marked_nowhere eq c.self.inside.texts c.self.inside.marks c.self.invariant c.args.mark c.args.text.now (sym c.in-None.ensures.place))
    ∙ ap (position (is_same_mark eq (c.args.mark, string_bytes c.args.text.now))) c.self.view_is

pub returns-in-Some-clause-place : goal.returns-in-Some-clause-place
returns-in-Some-clause-place g c =
    let eq = g.T.PartialEq.eq in
    c.get-in-Some.ensures.place
    ∙ sym (marked_found eq c.self.inside.texts c.self.inside.marks c.self.invariant c.get.ensures.once c.args.mark c.args.text.now c.in-Some.place (sym c.in-Some.ensures.place))
    ∙ ap (position (is_same_mark eq (c.args.mark, string_bytes c.args.text.now))) c.self.view_is

pub returns-in-Some-clause-once : goal.returns-in-Some-clause-once
returns-in-Some-clause-once g c =
    let eq = g.T.PartialEq.eq in
    on_some_of c.get-in-Some.result
    (subst (StandOnce (is_same_mark eq)) c.self.view_is (marked_once eq c.self.inside.texts c.self.inside.marks c.self.invariant c.get.ensures.once c.get-in-Some.ensures.once))
