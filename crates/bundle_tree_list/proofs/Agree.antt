-- How a derived comparison of two values of an enum goes, by the variant of the first.
use Rattle.std.proofs.Common.{◌≡◌, ◌≢◌, ℕ, suc, pred, refl, false, Bool, ◌∙◌, sym, ap, subst₂, inl, inr, true≢false, List, [], ◌∷◌, arith, eqb}
use Rattle.std.specs.Bool.{Decides}
use Rattle.std.proofs.lemmas.Bool.Decides.{Decides-eqb}
use Rattle.bundle_syntax.specs.Item.{Item}
use Rattle.bundle_tree_list.proofs.Cut.{Row}
use Rattle.bundle_tree_list.proofs.Part.{Part}
use denote.Struct.Field.{Field}
use denote.Struct.Values.{Values}
use denote.Enum.Enum.{tag}
use denote.Enum.Declared.{Record, Choice, declared, tag_of, rowss, intoss}
use denote.Enum.Compared.{Each, by}

-- which variant it is
abbrev pub nth : (Fss : List (List Field)) → Choice Fss → ℕ
nth [] c = absurd c
nth (Fs ∷ Fss) (inl x) = 0
nth (Fs ∷ Fss) (inr c) = suc (nth Fss c)

-- what is to be shown of two values of one variant
abbrev pub Both : (Fss : List (List Field)) → Each Bool Fss → Choice Fss → (Choice Fss → Bool → Type 0) → Type 0
Both [] each c Q = absurd c
Both (Fs ∷ Fss) each (inl x) Q = (y : Values Fs) → Q (inl y) (each.0 x y)
Both (Fs ∷ Fss) each (inr c) Q = Both Fss each.1 c (λ d b. Q (inr d) b)

not-suc : {n : ℕ} → 0 ≡ suc n → ⊥
not-suc e = omega arith

pub by_variant : (Fss : List (List Field)) (each : Each Bool Fss) (c d : Choice Fss) (Q : Choice Fss → Bool → Type 0) → Both Fss each c Q → ((nth Fss d ≢ nth Fss c) → Q d false) → Q d (by false false Fss each c d)
by_variant [] each c d Q both apart = absurd c
by_variant (Fs ∷ Fss) each (inl x) (inl y) Q both apart = both y
by_variant (Fs ∷ Fss) each (inl x) (inr d) Q both apart = apart (λ e. not-suc (sym e))
by_variant (Fs ∷ Fss) each (inr c) (inl y) Q both apart = apart (λ e. not-suc e)
by_variant (Fs ∷ Fss) each (inr c) (inr d) Q both apart = by_variant Fss each.1 c d (λ d b. Q (inr d) b) both (λ n. apart (λ e. n (ap pred e)))

-- variants that hold nothing
abbrev pub Plain : List (List Field) → Type 0
Plain [] = Unit {0}
Plain ([] ∷ Fss) = Plain Fss
Plain ((F ∷ Fs) ∷ Fss) = ⊥

abbrev place : (Fss : List (List Field)) → Choice Fss → ℕ
place Fss c = tag (rowss Fss) (intoss Fss c)

one_place : (Fss : List (List Field)) → Plain Fss → (c d : Choice Fss) → place Fss c ≡ place Fss d → c ≡ d
one_place [] p c d is = absurd c
one_place ([] ∷ Fss) p (inl x) (inl y) is = refl
one_place ([] ∷ Fss) p (inl x) (inr d) is = absurd (not-suc is)
one_place ([] ∷ Fss) p (inr c) (inl y) is = absurd (not-suc (sym is))
one_place ([] ∷ Fss) p (inr c) (inr d) is = ap inr (one_place Fss p c d (ap pred is))
one_place ((F ∷ Fs) ∷ Fss) p c d is = absurd p

pub kinds : (N : Record) → Plain N.parts → (d e : N.D) {b : Bool} → b ≡ eqb (tag_of (declared N) d) (tag_of (declared N) e) → Decides b (d ≡ e)
kinds N p d e is =
    let one = Decides-eqb (place N.parts (N.as_values d)) (place N.parts (N.as_values e)) in
    (λ so. sym (N.eta d) ∙ (ap N.make (one_place N.parts p (N.as_values d) (N.as_values e) (one.0 (sym is ∙ so))) ∙ N.eta e), λ same. is ∙ one.1 (ap (λ it. place N.parts (N.as_values it)) same))

-- two values of an enum, by the variant of the first, where their lists tell the variant
pub variants : {field : ℕ} (N : Record) (each : Each Bool N.parts) (items : N.D → List Item) → ((it : N.D) → Row field (items it)) → (number : List Item → ℕ) → ((it : N.D) → number (items it) ≡ nth N.parts (N.as_values it)) → (d e : N.D) {b : Bool} → b ≡ by false false N.parts each (N.as_values d) (N.as_values e) → Both N.parts each (N.as_values d) (λ c t. Part field t (items d) (items (N.make c))) → Part field b (items d) (items e)
variants {field = field} N each items row number numbered d e is both =
    subst₂ (λ test it. Part field test (items d) (items it)) (sym is) (N.eta e)
    (by_variant N.parts each (N.as_values d) (N.as_values e) (λ c t. Part field t (items d) (items (N.make c))) both
    (λ apart. record {
      left = row d;
      right = row (N.make (N.as_values e));
      same = (λ wrong. absurd (true≢false (sym wrong)), λ one. absurd (apart (ap (nth N.parts) (sym (N.beta (N.as_values e))) ∙ (sym (numbered (N.make (N.as_values e))) ∙ (ap number (sym one) ∙ numbered d)))));
    }))
