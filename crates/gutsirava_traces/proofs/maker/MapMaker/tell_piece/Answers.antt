-- A piece is told with the name that was put down before.
use Rattle.std.proofs.Common.{ℕ, refl, ap, subst, ◌∙◌}
use Rattle.std.proofs.lemmas.Result.{on_ok_weaker}
use Rattle.gutsirava_traces.specs.Told.{place_within, IsNameAt}
use Rattle.gutsirava_traces.proofs.ToldLemmas.{one_tells, one_told}
use Rattle.gutsirava_traces.proofs.maker.MapMaker.tell_piece.Goals as goal

pub returns-clause-tells : goal.returns-clause-tells
returns-clause-tells c =
    let source = c.args.source.now in
    on_ok_weaker c.tell.result
    (λ step. one_tells c.args.list c.args.at c.args.own source c.place_of.new.self c.args.self.now c.tell.new.self
    (one_told c.args.list c.args.at c.args.own source c.place_of.new.self c.args.self.now c.name_of.new.self c.tell.new.self
    _ _ c.place_of.ensures.same c.name_of.ensures.same c.name_of.ensures.kept c.offset.ensures (λ e. absurd (c.if-place.false (c.place-place.ensures ∙ e))) refl
    (c.in_ok-place_of.ensures.place ∙ ap (place_within source.text.now) c.place-place.ensures)
    (subst (λ (place : ℕ). IsNameAt source.text.now place c.name_of.new.self.names.names.items c.in_ok-name.name)
    c.place-place.ensures c.in_ok-name.ensures.name) step))
    c.tell.ensures

pub returns-clause-one : goal.returns-clause-one
returns-clause-one c =
    let source = c.args.source.now in
    on_ok_weaker c.tell.result
    (λ step somewhere. one_told c.args.list c.args.at c.args.own source c.place_of.new.self c.args.self.now c.name_of.new.self c.tell.new.self
    _ _ c.place_of.ensures.same c.name_of.ensures.same c.name_of.ensures.kept c.offset.ensures somewhere refl
    (c.in_ok-place_of.ensures.place ∙ ap (place_within source.text.now) c.place-place.ensures)
    (subst (λ (place : ℕ). IsNameAt source.text.now place c.name_of.new.self.names.names.items c.in_ok-name.name)
    c.place-place.ensures c.in_ok-name.ensures.name) step)
    c.tell.ensures
