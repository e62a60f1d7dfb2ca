use Rattle.std.proofs.Common.{Bor, Some, List, ℕ, ap, get_or, option_map, refl, sym, ◌∙◌}
use Rattle.std.specs.Prelude.{bytes_eq}
use Rattle.std.proofs.lemmas.List.Quantifiers.{position-Some}
use Rattle.std.proofs.lemmas.Option.{slice_get-get_or, slice_get-map}
use Rattle.std.proofs.lemmas.Slice.Eq.{bytes_eq-Decides}
use lib.Pointwise.{bytes_decides}
use Rattle.bundle_link_index.proofs.NumberedLemmas.{none_same}
use Rattle.bundle_link_index.proofs.numbers.LinkNumbers.spot.Goals as goal

pub returns-in-Some : goal.returns-in-Some
returns-in-Some c =
    let keys = c.args.self.now.names.keys in
    let place = c.in-Some.place in
    let at = position-Some (λ (k : Bor (List ℕ)). bytes_eq c.args.name.now k.now) keys place c.args.name (sym c.in-Some.ensures.index) in
    (refl, slice_get-map (λ (k : Bor (List ℕ)). k.now) keys place ∙ ap (option_map (λ (k : Bor (List ℕ)). k.now)) (slice_get-get_or keys place c.args.name at.0) ∙ ap (λ x. Some x) (sym ((bytes_eq-Decides c.args.name.now (get_or keys place c.args.name).now).0 at.1)))

pub returns-in-None : goal.returns-in-None
returns-in-None c = λ n named.
    none_same (λ (a b : Bor (List ℕ)). bytes_eq a.now b.now) (λ (k : Bor (List ℕ)). k.now) (λ a b. bytes_decides a.now b.now) c.args.name c.args.self.now.names.keys n c.args.name.now (sym c.in-None.ensures.found) named refl
