-- The place noted of a text is that of the key with it.
use Rattle.std.proofs.Common.{◌≡◌, ℕ, Bool, List, Bor, is_some, position, sym, ap, ◌∙◌}
use Rattle.std.specs.Str.{bytes_eq}
use Rattle.bundle_scope_denote.proofs.TextPlaceLemmas.{is_some-position}
use Rattle.bundle_scope_denote.proofs.TextSeenLemmas.{keys-set_of}
use Rattle.bundle_scope_denote.proofs.texts.set.TextSet+ref+str.place_of.Goals as goal

pub returns-clause-index : goal.returns-clause-index
returns-clause-index c =
    let test : Bor (List ℕ) → Bool = λ key. bytes_eq c.args.text.now key.now in
    let keys = c.self.inside.keys.items in
    let seen : c.args.self.now.keys ≡ keys = sym (ap (λ s. s.keys) c.self.view_is) ∙ keys-set_of keys in
    c.copied.ensures ∙ c.get.ensures.value ∙ c.self.invariant.found (record { ref_ptr = (0, 0); now = c.args.text.now }) ∙ ap (position test) (sym seen)

pub returns-clause-found : goal.returns-clause-found
returns-clause-found c =
    let test : Bor (List ℕ) → Bool = λ key. bytes_eq c.args.text.now key.now in
    let keys = c.self.inside.keys.items in
    let seen : c.args.self.now.keys ≡ keys = sym (ap (λ s. s.keys) c.self.view_is) ∙ keys-set_of keys in
    ap is_some (c.copied.ensures ∙ c.get.ensures.value ∙ c.self.invariant.found (record { ref_ptr = (0, 0); now = c.args.text.now }) ∙ ap (position test) (sym seen))
    ∙ is_some-position test c.args.self.now.keys
