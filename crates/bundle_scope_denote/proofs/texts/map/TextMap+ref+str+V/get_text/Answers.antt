-- The value at the place of the text, if it has one.
use Rattle.std.proofs.Common.{◌≡◌, ℕ, Bool, List, Bor, slice_get, sym, ap, subst, ◌∙◌}
use Rattle.std.specs.List.{IsAmong}
use Rattle.std.specs.Map.{lookup, values_of}
use Rattle.std.specs.Option.{IfSome, option_copied}
use Rattle.std.specs.Str.{bytes_eq}
use Rattle.bundle_scope_denote.proofs.TextSeenLemmas.{lookup-place, lookup-nowhere, values-pairs, copied-at, among-values}
use Rattle.bundle_scope_denote.proofs.texts.map.TextMap+ref+str+V.get_text.Goals as goal

pub returns-in-None-clause-value : goal.returns-in-None-clause-value
returns-in-None-clause-value g c =
    let test : Bor (List ℕ) → Bool = λ key. bytes_eq c.args.text.now key.now in
    sym (lookup-nowhere test c.self.inside.keys.keys c.self.inside.values.items c.self.invariant (sym c.in-None.ensures.index))
    ∙ ap (λ m. lookup test m.entries) c.self.view_is

pub returns-in-Some-clause-value : goal.returns-in-Some-clause-value
returns-in-Some-clause-value g c =
    let test : Bor (List ℕ) → Bool = λ key. bytes_eq c.args.text.now key.now in
    let here : option_copied c.get.result ≡ slice_get c.deref.result.now c.in-Some.place = copied-at c.get.result c.deref.result.now c.in-Some.place c.get.ensures.lookup.0 c.get.ensures.lookup.1 in
    here ∙ ap (λ l. slice_get l c.in-Some.place) c.deref.ensures.value
    ∙ sym (lookup-place test c.self.inside.keys.keys c.self.inside.values.items c.in-Some.place c.self.invariant (sym c.in-Some.ensures.index))
    ∙ ap (λ m. lookup test m.entries) c.self.view_is

pub returns-in-Some-clause-member : goal.returns-in-Some-clause-member
returns-in-Some-clause-member g c =
    let own = c.self.inside.values.items in
    let here : option_copied c.get.result ≡ slice_get c.deref.result.now c.in-Some.place = copied-at c.get.result c.deref.result.now c.in-Some.place c.get.ensures.lookup.0 c.get.ensures.lookup.1 in
    subst (λ l. IfSome c.get.result (λ x. IsAmong l x.now)) (sym (values-pairs c.self.inside.keys.keys own c.self.invariant) ∙ ap (λ m. values_of m.entries) c.self.view_is)
    (among-values c.get.result own c.in-Some.place (here ∙ ap (λ l. slice_get l c.in-Some.place) c.deref.ensures.value))
