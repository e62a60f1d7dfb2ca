-- Where keywords are renamed by the rule, identifiers are told apart as before.
use Rattle.std.proofs.Common.{◌≡◌, ℕ, ◌==◌, ◌&&◌, Bool, true, false, cond, not, List, ◌++◌, bytes_eq, codes, nat_le, refl, ap, sym, ◌∙◌, eqb-true, eq-eqb}
use Rattle.std.specs.List.{list_any}
use Rattle.std.proofs.lemmas.Bool.{false≢true, and_parts, and_from}
use Rattle.std.proofs.lemmas.Option.{slice_get_within, get_or_from_slice_get}
use Rattle.std.proofs.lemmas.Slice.Eq.{bytes_eq-Decides}
use Rattle.bundle_syntax.specs.Item.{Item}
use Rattle.bundle_rules.specs.Places.{Occurrence, occurrences}
use Rattle.bundle_rules.specs.Scopes.{Es}
use Rattle.bundle_rules.specs.Declarations.{ByContext, Declared, declared}
use Rattle.bundle_rules.specs.Denotes.{Denoted, Bound, Global}
use Rattle.bundle_rules.specs.Keywords.{is_keyword, keyword_free_of, has_ident, is_unused_context}
use Rattle.bundle_rules.specs.Renamed.{HasNamesOnly}
use Rattle.bundle_merge_theory.specs.joined.Joined.{AllOf}
use Rattle.bundle_merge_theory.proofs.joined.Denotes.{HasIdentifier}
use Rattle.bundle_scope_names.proofs.naming_rule.Tables.{IsIn, any-here}
use Rattle.bundle_scope_names.proofs.naming_rule.Transfer.{Calling, IsFaithful}
use Rattle.bundle_merge_theory.proofs.composed.Keywords.{symbol-stays}
use Rattle.bundle_merge_theory.specs.finished.Finished.{denoted_by_table, IsRightContext}
use Rattle.bundle_merge_theory.specs.finished.Rules.{IsAnew, IsKeywordRule}
use Rattle.bundle_merge_theory.proofs.composed.Among.{all-in}
use Rattle.bundle_scope_names.proofs.numbered.Faith.{under-one as front-same}

module _ (call : Calling) (tree : List Item) (names : HasNamesOnly tree) (rule : IsKeywordRule call tree) where
  abbrev os : List Occurrence
  os = occurrences tree

  abbrev all : List Declared
  all = declared ByContext Es tree

  -- what becomes of an identifier
  data Kind (o : Occurrence) : Type 0 where
    kept : (call o.sym o.ctxt).0 ≡ o.sym → (call o.sym o.ctxt).1 ≡ o.ctxt → Kind o
    renamed : (call o.sym o.ctxt).0 ≡ codes "__" ++ o.sym →
        has_ident os (call o.sym o.ctxt).0 o.ctxt ≡ false → (call o.sym o.ctxt).1 ≡ o.ctxt → Kind o
    anew : (call o.sym o.ctxt).0 ≡ codes "__" ++ o.sym → IsAnew call tree o →
        is_unused_context os (call o.sym o.ctxt).1 ≡ true → Kind o

  kind : (o : Occurrence) → IsIn os o → Kind o
  kind o at =
      by_same (bytes_eq o.sym (call o.sym o.ctxt).0) refl
      (has_ident os (call o.sym o.ctxt).0 o.ctxt) refl
    where
      right : IsRightContext os o (call o.sym o.ctxt).0 (call o.sym o.ctxt).1
      right = rule.calling.context o at

      by_keyword : (b : Bool) → (call o.sym o.ctxt).0 ≡ cond b (codes "__" ++ o.sym) o.sym →
          bytes_eq o.sym (call o.sym o.ctxt).0 ≡ false → (call o.sym o.ctxt).0 ≡ codes "__" ++ o.sym
      by_keyword true is differ = is
      by_keyword false is differ =
          absurd
          (false≢true (sym differ ∙ (bytes_eq-Decides o.sym (call o.sym o.ctxt).0).1 (sym is)))

      by_denoted : (d : Denoted) → (call o.sym o.ctxt).0 ≡ keyword_free_of o.sym d →
          bytes_eq o.sym (call o.sym o.ctxt).0 ≡ false → (call o.sym o.ctxt).0 ≡ codes "__" ++ o.sym
      by_denoted (Global x) is differ =
          absurd
          (false≢true (sym differ ∙ (bytes_eq-Decides o.sym (call o.sym o.ctxt).0).1 (sym is)))
      by_denoted (Bound scope name) is differ = by_keyword (is_keyword o.sym) is differ

      by_same : (s : Bool) → bytes_eq o.sym (call o.sym o.ctxt).0 ≡ s → (h : Bool) →
          has_ident os (call o.sym o.ctxt).0 o.ctxt ≡ h → Kind o
      by_same true is h has =
          kept (sym ((bytes_eq-Decides o.sym (call o.sym o.ctxt).0).0 is))
          (eqb-true (call o.sym o.ctxt).1 o.ctxt (sym (ap (λ b. cond (not b && has_ident os (call o.sym o.ctxt).0 o.ctxt) (is_unused_context os (call o.sym o.ctxt).1) ((call o.sym o.ctxt).1 == o.ctxt)) is) ∙ right))
      by_same false is true has =
          anew (by_denoted (denoted_by_table tree o) (rule.calling.symbol o at) is) (and_from (not (bytes_eq o.sym (call o.sym o.ctxt).0)) (has_ident os (call o.sym o.ctxt).0 o.ctxt) (ap not is) has)
          (sym (ap (λ b. cond (not b && has_ident os (call o.sym o.ctxt).0 o.ctxt) (is_unused_context os (call o.sym o.ctxt).1) ((call o.sym o.ctxt).1 == o.ctxt)) is ∙ ap (λ b. cond b (is_unused_context os (call o.sym o.ctxt).1) ((call o.sym o.ctxt).1 == o.ctxt)) has) ∙ right)
      by_same false is false has =
          renamed (by_denoted (denoted_by_table tree o) (rule.calling.symbol o at) is) has
          (eqb-true (call o.sym o.ctxt).1 o.ctxt (sym (ap (λ b. cond (not b && has_ident os (call o.sym o.ctxt).0 o.ctxt) (is_unused_context os (call o.sym o.ctxt).1) ((call o.sym o.ctxt).1 == o.ctxt)) is ∙ ap (λ b. cond b (is_unused_context os (call o.sym o.ctxt).1) ((call o.sym o.ctxt).1 == o.ctxt)) has) ∙ right))

  -- an identifier that stands there is had, and its context is used
  has-here : (o : Occurrence) → IsIn os o → (x : List ℕ) (c : ℕ) → o.sym ≡ x → o.ctxt ≡ c →
      has_ident os x c ≡ true
  has-here o at x c symbols contexts =
      any-here (λ (a : Occurrence). bytes_eq a.sym x && a.ctxt == c) os o at
      (and_from (bytes_eq o.sym x) (o.ctxt == c) ((bytes_eq-Decides o.sym x).1 symbols) (eq-eqb o.ctxt c contexts))

  used-here : (o : Occurrence) → IsIn os o → (c : ℕ) → o.ctxt ≡ c → is_unused_context os c ≡ true →
      ⊥
  used-here o at c contexts unused =
      let both = and_parts (nat_le 2 c) (not (list_any (λ (a : Occurrence). a.ctxt == c) os)) unused in
      false≢true (sym (ap not (any-here (λ (a : Occurrence). a.ctxt == c) os o at (eq-eqb o.ctxt c contexts))) ∙ both.1)

  one : (o p : Occurrence) → IsIn os o → IsIn os p → (call o.sym o.ctxt).0 ≡ (call p.sym p.ctxt).0 →
      (call o.sym o.ctxt).1 ≡ (call p.sym p.ctxt).1 → Kind o → Kind p →
      (o.sym ≡ p.sym) × (o.ctxt ≡ p.ctxt)
  one o p at there symbols contexts (kept a b) (kept c d) =
      (sym a ∙ symbols ∙ c, sym b ∙ contexts ∙ d)
  one o p at there symbols contexts (kept a b) (renamed c none d) =
      absurd
      (false≢true (sym none ∙ has-here o at (call p.sym p.ctxt).0 p.ctxt (sym a ∙ symbols) (sym b ∙ contexts ∙ d)))
  one o p at there symbols contexts (kept a b) (anew c is unused) =
      absurd (used-here o at (call p.sym p.ctxt).1 (sym b ∙ contexts) unused)
  one o p at there symbols contexts (renamed a none b) (kept c d) =
      absurd
      (false≢true (sym none ∙ has-here p there (call o.sym o.ctxt).0 o.ctxt (sym c ∙ sym symbols) (sym d ∙ sym contexts ∙ b)))
  one o p at there symbols contexts (renamed a none b) (renamed c other d) =
      (front-same o.sym p.sym (sym a ∙ symbols ∙ c), sym b ∙ contexts ∙ d)
  one o p at there symbols contexts (renamed a none b) (anew c is unused) =
      absurd (used-here o at (call p.sym p.ctxt).1 (sym b ∙ contexts) unused)
  one o p at there symbols contexts (anew a is unused) (kept c d) =
      absurd (used-here p there (call o.sym o.ctxt).1 (sym d ∙ sym contexts) unused)
  one o p at there symbols contexts (anew a is unused) (renamed c none d) =
      absurd (used-here p there (call o.sym o.ctxt).1 (sym d ∙ sym contexts) unused)
  one o p at there symbols contexts (anew a is unused) (anew c its other) =
      rule.apart o p at there is its contexts

  identified : AllOf HasIdentifier all
  identified =
      all-in HasIdentifier all
      (λ i d at. names d (i, slice_get_within all i d at, get_or_from_slice_get all i d d at))

  context-of : (o : Occurrence) → IsIn os o → (call o.sym o.ctxt).0 ≡ o.sym →
      (call o.sym o.ctxt).1 ≡ o.ctxt
  context-of o at is =
      eqb-true (call o.sym o.ctxt).1 o.ctxt
      (sym (ap (λ b. cond (not b && has_ident os (call o.sym o.ctxt).0 o.ctxt) (is_unused_context os (call o.sym o.ctxt).1) ((call o.sym o.ctxt).1 == o.ctxt)) ((bytes_eq-Decides o.sym (call o.sym o.ctxt).0).1 (sym is))) ∙ rule.calling.context o at)

  -- the rule is faithful
  pub rule-faithful : IsFaithful call os all
  rule-faithful = record {
    one = λ o p at there symbols contexts. one o p at there symbols contexts (kind o at) (kind p there);
    stays = λ o at unwritten. let symbols : (call o.sym o.ctxt).0 ≡ o.sym = rule.calling.symbol o at ∙ symbol-stays all identified o unwritten in (symbols, context-of o at symbols);
  }
