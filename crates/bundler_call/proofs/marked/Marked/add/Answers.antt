-- A text goes last with its mark, and stands where it stood or last among the texts.
use Rattle.std.proofs.Common.{◌≡◌, ◌∙◌, ◌++◌, ◌∷◌, [], None, ap, position, string_bytes, subst, sym}
use Rattle.bundler_call.specs.Marks.{is_same_mark, marked_in, AreMarksWithin}
use Rattle.bundler_call.proofs.Holding.{marked_more, marked_stay, not_placed, on_err_of, within_more, within_stay}
use Rattle.bundler_call.proofs.marked.Marked.add.Goals as goal

pub invariant_of-self : goal.invariant_of-self
invariant_of-self g c =
    within_stay g.T.PartialEq.eq c.self.inside.texts c.self.inside.marks c.self.invariant c.place_of.new.texts c.place_of.ensures.stays

pub returns-in_err-place-clause-err : goal.returns-in_err-place-clause-err
returns-in_err-place-clause-err g c =
    on_err_of _ (marked_stay g.T.PartialEq.eq c.self.inside.texts c.self.inside.marks c.self.invariant c.place_of.new.texts c.place_of.ensures.stays ∙ c.self.view_is)

pub add-requires : goal.add-requires
add-requires g c =
    let eq = g.T.PartialEq.eq in
    let text = string_bytes c.args.text.now in
    let there = c.in_ok-place.ensures.there in
    let none : position (is_same_mark eq (c.args.mark, text)) (marked_in c.self.inside.texts c.self.inside.marks) ≡ None = ap (position (is_same_mark eq (c.args.mark, text))) c.self.view_is ∙ c.requires in
    not_placed eq c.self.inside.texts c.self.inside.marks c.self.invariant c.place_of.new.texts c.place_of.ensures.stays c.args.mark c.in_ok-place.place there.0 text there.1 there.2 none

pub invariant_of-self-in_err-add : goal.invariant_of-self-in_err-add
invariant_of-self-in_err-add g c =
    subst (AreMarksWithin c.place_of.new.texts) (sym c.in_err-add.ensures.err)
    (within_stay g.T.PartialEq.eq c.self.inside.texts c.self.inside.marks c.self.invariant c.place_of.new.texts c.place_of.ensures.stays)

pub returns-in_err-add-clause-err : goal.returns-in_err-add-clause-err
returns-in_err-add-clause-err g c =
    on_err_of _ (ap (marked_in c.place_of.new.texts) c.in_err-add.ensures.err
    ∙ marked_stay g.T.PartialEq.eq c.self.inside.texts c.self.inside.marks c.self.invariant c.place_of.new.texts c.place_of.ensures.stays ∙ c.self.view_is)

pub invariant_of-self-2 : goal.invariant_of-self-2
invariant_of-self-2 g c =
    let there = c.in_ok-place.ensures.there in
    subst (AreMarksWithin c.place_of.new.texts) (sym c.in_ok-add.ensures.added)
    (within_more g.T.PartialEq.eq c.self.inside.texts c.self.inside.marks c.self.invariant c.place_of.new.texts c.place_of.ensures.stays c.args.mark c.in_ok-place.place there.0 (string_bytes c.args.text.now) there.1 there.2)

pub returns-clause-added : goal.returns-clause-added
returns-clause-added g c =
    let text = string_bytes c.args.text.now in
    let there = c.in_ok-place.ensures.there in
    ap (marked_in c.place_of.new.texts) c.in_ok-add.ensures.added
    ∙ marked_more g.T.PartialEq.eq c.self.inside.texts c.self.inside.marks c.self.invariant c.place_of.new.texts c.place_of.ensures.stays c.args.mark c.in_ok-place.place there.0 text there.1 there.2
    ∙ ap (λ l. l ++ (c.args.mark, text) ∷ []) c.self.view_is
