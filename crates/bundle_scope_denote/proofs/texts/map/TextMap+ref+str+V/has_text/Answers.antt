-- A text has a value where it has a place.
use Rattle.std.proofs.Common.{ℕ, Bool, List, Bor, is_some, sym, ap, ◌∙◌}
use Rattle.std.specs.Map.{lookup}
use Rattle.std.specs.Str.{bytes_eq}
use Rattle.bundle_scope_denote.proofs.TextPlaceLemmas.{is_some-position}
use Rattle.bundle_scope_denote.proofs.TextSeenLemmas.{is_some-lookup}
use Rattle.bundle_scope_denote.proofs.texts.map.TextMap+ref+str+V.has_text.Goals as goal

pub returns : goal.returns
returns g c =
    let test : Bor (List ℕ) → Bool = λ key. bytes_eq c.args.text.now key.now in
    let keys = c.self.inside.keys.keys in
    c.has_text.ensures ∙ sym (is_some-position test keys) ∙ sym (is_some-lookup test keys c.self.inside.values.items c.self.invariant)
    ∙ ap (λ m. is_some (lookup test m.entries)) c.self.view_is
