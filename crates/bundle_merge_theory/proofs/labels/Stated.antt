-- What a top item declares is declared in what it states, or imported.
use Rattle.std.proofs.Common.{◌≡◌, ◌⊎◌, inl, inr, ℕ, zero, suc, true, false, List, [], ◌∷◌, ◌++◌, append_assoc, Some, Contains, refl, sym, ap, ◌∙◌, subst, arith}
use Rattle.std.specs.Prelude.{fold}
use Rattle.std.proofs.lemmas.Bool.{false≢true, true≢false}
use Rattle.std.proofs.lemmas.List.Elements.{Contains-append_left, Contains-append_right}
use Rattle.std.proofs.lemmas.Option.{none-some, same_Some}
use Rattle.bundle_syntax.specs.declared.kind.ExportMetadata.{ExportMetadata}
use Rattle.bundle_syntax.specs.declared.kind.VarDeclKind.TheVariants.{Const}
use Rattle.bundle_syntax.specs.declared.piece.Role.{Role}
use Rattle.bundle_syntax.specs.declared.piece.Role.TheVariants as r
use Rattle.bundle_syntax.specs.Item as h
use Rattle.bundle_syntax.specs.Item.{Item, Head}
use Rattle.bundle_rules.specs.Nodes.{Text, side_by_side}
use Rattle.bundle_rules.specs.Places.{Spot, past, Occurrence, occurrences_from, occurrence_of}
use Rattle.bundle_rules.specs.Scopes.{Es}
use Rattle.bundle_rules.specs.Declarations.{BySymbol, Declared, declared_at, declared_from, declaration_of}
use Rattle.bundle_rules.specs.Callable.{is_module_head}
use Rattle.bundle_rules.specs.Entries.{ImportEntry, imports_of_item, text_in}
use Rattle.bundle_rules.specs.Meaning.{plain}
use Rattle.bundle_rules.specs.Statements.{Element, taken, written, taken_from, default_name, no_notes, default_binding, moved_to, taken_in_field, default_constant, declaration_head, with_name, default_declaration, stated_by, stated}
use Rattle.bundle_scope_names.specs.fit.Sorts.{NodeSort, One, Many, Optional, slot, AnItem, AStmt, AnImport, ASource, ADefault, AFunction, AClass, ALocal, takes_head, takes_name, slots}
use Rattle.bundle_scope_names.specs.fit.Fits.{AreFit, over, a_name, a_node}
use Rattle.bundle_scope_names.proofs.fit.Rows.{own_slots}
use Rattle.bundle_link.proofs.NodePaths.{fold-append}
use Rattle.bundle_link.proofs.StatedElements.{last-off as last_off}
use Rattle.bundle_link_targets.proofs.ListLemmas.{first-there}
use Rattle.bundle_link_index.proofs.AskedLemmas.{none_there as none-there}
use Rattle.bundle_link_index.proofs.ProgramLemmas.{later as later-there, first_or_later as there-cases}
use Rattle.bundle_merge_theory.proofs.labels.Walked as w
use Rattle.bundle_merge_theory.proofs.labels.Walked.{HasNoDefault, IsNameIn, no-default-join, put-cases, put-later, declared-in}
use Rattle.bundle_merge_theory.proofs.labels.Silent.{AreSilent, own-plain, silent-behind, listed-silent, import-declares, entry-there}

-- what a top item at a spot declares: a name in a statement, `default` without a name, or an import
pub data IsDeclaredBy (s : Spot) (item : List Item) (d : Declared) : Type 0 where
  by_name : (o : Occurrence) (statement : List Element) (field ctxt : ℕ) →
      Contains (occurrences_from s item) o →
      declaration_of BySymbol Es o ≡ Some d →
      Contains (stated s.place item) statement →
      Contains statement (taken d.place (h.Ident field d.name.sym ctxt r.Binding)) →
      d.name ≡ plain d.name.sym →
      IsDeclaredBy s item d
  by_default : (statement : List Element) →
      Contains (stated s.place item) statement →
      Contains statement default_binding →
      d.name.sym ≡ default_name →
      IsDeclaredBy s item d
  by_import : (entry : ImportEntry) →
      Contains (imports_of_item item) entry →
      entry.local ≡ d.name.sym →
      IsDeclaredBy s item d

-- what top items with a head state
data TopForm : Head → Type 0 where
  as_it_is : {head : Head} → is_module_head head ≡ false →
      (takes_head head AnItem ≡ true → takes_head head AStmt ≡ true) →
      ((start : ℕ) (items : List Item) → stated_by head start items ≡ taken_from start items ∷ []) →
      TopForm head
  an_import : {meta : ExportMetadata} → TopForm (h.ImportDecl meta)
  silent : {head : Head} →
      ((ins : List Item) → AreFit (slots head r.Reference) ins → AreSilent ins) →
      ((s : Spot) (rest : List Item) (d : Declared) →
      declared_at BySymbol Es s (h.Open 0 head) rest ≡ Some d → ⊥) →
      TopForm head
  declared : TopForm h.ExportDecl
  default_declared : TopForm h.ExportDefaultDecl
  default_expression : TopForm h.ExportDefaultExpr
  elsewhere : {head : Head} → takes_head head AnItem ≡ false → TopForm head

form : (head : Head) → TopForm head
form (h.ImportDecl meta) = an_import
form (h.NamedExport meta) = silent (λ ins fit. listed-silent fit refl) (λ s rest d e. none-some d e)
form (h.ExportAll meta) = silent (λ ins fit. listed-silent fit refl) (λ s rest d e. none-some d e)
form h.EmptyStmt = silent (λ ins fit. listed-silent fit refl) (λ s rest d e. none-some d e)
form h.ExportDecl = declared
form h.ExportDefaultDecl = default_declared
form h.ExportDefaultExpr = default_expression
form h.Module = elsewhere refl
form h.ImportNamedSpecifier = elsewhere refl
form h.ImportDefaultSpecifier = elsewhere refl
form h.ImportStarAsSpecifier = elsewhere refl
form h.ExportNamespaceSpecifier = elsewhere refl
form h.ExportNamedSpecifier = elsewhere refl
form head = as_it_is refl (λ e. e) (λ start items. refl)

abbrev node : Head → List Item → List Item
node head ins = h.Open 0 head ∷ (ins ++ h.Close ∷ [])

abbrev behind : Spot → Head → List Item → Spot
behind s head ins = fold past s (h.Open 0 head ∷ (ins ++ h.Close ∷ []))

-- a declaration inside the item, or one behind it
Found : Spot → Head → List Item → List Item → Declared → Type 0
Found s head ins tail d =
    IsDeclaredBy s (node head ins) d ⊎ Contains (declared_from BySymbol Es (behind s head ins) tail)
    d

next-place : (s : Spot) (x : Item) → (past s x).place ≡ suc s.place
next-place s x = omega arith

spot-behind : (s : Spot) (head : Head) (ins : List Item) →
    behind s head ins ≡ past (fold past (past s (h.Open 0 head)) ins) h.Close
spot-behind s head ins = fold-append (past s (h.Open 0 head)) ins (h.Close ∷ [])

-- ---- a default function or class
pub data Begins : List Item → Type 0 where
  with_a_name : {field ctxt : ℕ} {x : Text} {role : Role} {rest : List Item} →
      Begins (h.Ident field x ctxt role ∷ rest)
  with_a_node : {field : ℕ} {head : Head} {rest : List Item} → Begins (h.Open field head ∷ rest)

begins-front : (xs ys : List Item) → Begins xs → Begins (xs ++ ys)
begins-front _ ys with_a_name = with_a_name
begins-front _ ys with_a_node = with_a_node

pub record IsDefault (ins : List Item) : Type 0 where
  pub head : Head
  pub body : List Item
  pub is : ins ≡ h.Open 0 head ∷ body
  pub begins : Begins body

some-begins : (n : ℕ) (sort : NodeSort) {items : List Item} → AreFit (slot n One sort ∷ []) items →
    Begins items
some-begins n sort (over e fit) = absurd (true≢false e)
some-begins n sort (a_name it fit) = with_a_name
some-begins n sort (a_node it in_it fit) = with_a_node

body-begins : (sort : NodeSort) {items : List Item} →
    AreFit (slot 0 Optional ALocal ∷ slot 1 One sort ∷ []) items → Begins items
body-begins sort (over e fit) = some-begins 1 sort fit
body-begins sort (a_name it fit) = with_a_name
body-begins sort (a_node it in_it fit) = with_a_node

default-head : (head : Head) → takes_head head ADefault ≡ true → {items : List Item} →
    AreFit (slots head r.Reference) items → Begins items
default-head h.FnExpr is fit = body-begins AFunction fit
default-head h.ClassExpr is fit = body-begins AClass fit
default-head _ is fit = absurd (false≢true is)

pub no-default-name : (role : Role) → takes_name role ADefault ≡ true → ⊥
no-default-name r.Binding is = false≢true is
no-default-name r.Reference is = false≢true is
no-default-name r.Word is = false≢true is

pub default-shape : {ins : List Item} → AreFit (slot 0 One ADefault ∷ []) ins → IsDefault ins
default-shape (over e fit) = absurd (true≢false e)
default-shape (a_name {role = role} it fit) = absurd (no-default-name role it)
default-shape (a_node {head = hd} {inside = ins} {rest = rest} it in_it fit) = record {
  head = hd;
  body = ins ++ h.Close ∷ rest;
  is = refl;
  begins = begins-front ins (h.Close ∷ rest) (default-head hd it in_it);
}

abbrev moved-element : Element → Element
moved-element (taken p y) = taken p (moved_to 1 y)
moved-element (written y) = written y

module _ (s : Spot) (tail : List Item) (d : Declared) where
  abbrev Declares : Head → List Item → Type 0
  Declares head ins =
      Contains (declared_from BySymbol Es s (h.Open 0 head ∷ (ins ++ h.Close ∷ tail))) d

  -- behind the inside of the node
  back : (head : Head) (ins : List Item) →
      Contains (declared_from BySymbol Es (fold past (past s (h.Open 0 head)) ins) (h.Close ∷ tail))
      d →
      Contains (declared_from BySymbol Es (behind s head ins) tail) d
  back head ins c =
      subst (λ (t : Spot). Contains (declared_from BySymbol Es t tail) d)
      (sym (spot-behind s head ins)) c

  -- of a name inside what follows the head, in a statement that has the elements there
  name-inside : (head : Head) (ins : List Item) (statement : List Element) →
      stated s.place (node head ins) ≡ statement ∷ [] →
      ((field ctxt : ℕ) →
      Contains (taken_from (suc s.place) ins)
      (taken d.place (h.Ident field d.name.sym ctxt r.Binding)) →
      (other : ℕ) × Contains statement (taken d.place (h.Ident other d.name.sym ctxt r.Binding))) →
      IsNameIn (past s (h.Open 0 head)) ins d → IsDeclaredBy s (node head ins) d
  name-inside head ins statement states has its =
      let at = has its.field its.ctxt
      (subst
      (λ n. Contains (taken_from n ins)
      (taken d.place (h.Ident its.field d.name.sym its.ctxt r.Binding)))
      (next-place s (h.Open 0 head)) its.stands) in
      by_name its.o statement at.0 its.ctxt
      (put-later (occurrence_of s (h.Open 0 head))
      (occurrences_from (past s (h.Open 0 head)) (ins ++ h.Close ∷ [])) its.o
      (front ins (past s (h.Open 0 head)) its.there))
      its.declares
      (subst (λ l. Contains l statement) (sym states) (first-there statement [])) at.1 its.named
    where
      front : (ins : List Item) (t : Spot) → Contains (occurrences_from t ins) its.o →
          Contains (occurrences_from t (ins ++ h.Close ∷ [])) its.o
      front [] t c = none-there its.o c
      front (x ∷ ins) t c =
          elim (put-cases (occurrence_of t x) (occurrences_from (past t x) ins) its.o c) [
            | inl e ↦
                w.put-first (occurrence_of t x) (occurrences_from (past t x) (ins ++ h.Close ∷ []))
                its.o e
            | inr more ↦
                put-later (occurrence_of t x) (occurrences_from (past t x) (ins ++ h.Close ∷ [])) its.o
                (front ins (past t x) more)
          ]

  -- ---- a statement as it is
  plain-item : (head : Head) (ins : List Item) → is_module_head head ≡ false →
      takes_head head AStmt ≡ true →
      stated s.place (node head ins) ≡ taken_from s.place (node head ins) ∷ [] →
      AreFit (slots head r.Reference) ins → Declares head ins → Found s head ins tail d
  unfolding Found
  plain-item head ins apart is states fit c =
      let own = own-plain fit (own_slots head AStmt is refl) in
      let none : HasNoDefault (node head ins) =
      w.next (alone head apart) (no-default-join ins (h.Close ∷ []) own (w.next refl w.over)) in
      elim
      (declared-in (node head ins) none s tail d
      (subst (λ l. Contains (declared_from BySymbol Es s (h.Open 0 head ∷ l)) d)
      (sym (append_assoc ins (h.Close ∷ []) tail)) c)) [
        | inl its ↦
            inl
            (by_name its.o (taken_from s.place (node head ins)) its.field its.ctxt its.there
            its.declares
            (subst (λ l. Contains l (taken_from s.place (node head ins))) (sym states)
            (first-there _ [])) its.stands its.named)
        | inr after ↦ inr after
      ]
    where
      alone : (k : Head) → is_module_head k ≡ false → w.exports_default (h.Open 0 k) ≡ false
      alone h.ExportDefaultExpr e = absurd (true≢false e)
      alone h.ExportDefaultDecl e = absurd (true≢false e)
      alone _ e = refl

  -- ---- a declaration that is exported
  exported-item : (ins : List Item) → HasNoDefault ins → Declares h.ExportDecl ins →
      Found s h.ExportDecl ins tail d
  unfolding Found
  exported-item ins own c =
      elim (declared-in ins own (past s (h.Open 0 h.ExportDecl)) (h.Close ∷ tail) d c) [
        | inl its ↦
            inl
            (name-inside h.ExportDecl ins (taken_from (suc s.place) ins)
            (ap (λ l. taken_from (suc s.place) l ∷ []) (last_off ins h.Close))
            (λ field ctxt c. (field, c)) its)
        | inr after ↦ inr (back h.ExportDecl ins after)
      ]

  -- ---- a default expression
  constant-has : (place : ℕ) (ins : List Item) →
      Contains (default_constant place ins) default_binding
  constant-has place ins = (3, omega arith, refl)

  field-has : (place : ℕ) (ins : List Item) (field ctxt : ℕ) →
      Contains (taken_from place ins) (taken d.place (h.Ident field d.name.sym ctxt r.Binding)) →
      (other : ℕ) × Contains (taken_in_field 1 place ins)
      (taken d.place (h.Ident other d.name.sym ctxt r.Binding))
  field-has place [] field ctxt c = none-there _ c
  field-has place (x ∷ ins) field ctxt c =
      elim
      (there-cases (taken place x) (taken_from (suc place) ins)
      (taken d.place (h.Ident field d.name.sym ctxt r.Binding)) c) [
        | inl e ↦ (
          1,
          subst (λ e. Contains (taken place (moved_to 1 x) ∷ taken_from (suc place) ins) e)
              (moved-same e) (first-there (taken place (moved_to 1 x)) (taken_from (suc place) ins)),
        )
        | inr later ↦
            (field, later-there (taken place (moved_to 1 x)) (taken_from (suc place) ins) _ later)
      ]
    where
      moved-same : taken place x ≡ taken d.place (h.Ident field d.name.sym ctxt r.Binding) →
          taken place (moved_to 1 x) ≡ taken d.place (h.Ident 1 d.name.sym ctxt r.Binding)
      moved-same e = ap moved-element e

  constant-there : (place : ℕ) (ins : List Item) (e : Element) →
      Contains (taken_in_field 1 place ins) e →
      Contains (default_constant place ins) e
  constant-there place ins e c =
      let ends : List Element = written h.Close ∷ written h.Close ∷ [] in
      Contains-append_right
      (written (h.Open 0 (h.VarDecl Const no_notes)) ∷ written (h.Open 1 h.VarDeclarator) ∷ written
      (h.Open 0 h.BindingIdent) ∷ default_binding ∷ written h.Close ∷ [])
      (taken_in_field 1 place ins ++ ends) e
      (Contains-append_left (taken_in_field 1 place ins) ends e c)

  constant-item : (ins : List Item) → HasNoDefault ins → Declares h.ExportDefaultExpr ins →
      Found s h.ExportDefaultExpr ins tail d
  unfolding Found
  constant-item ins own c =
      let states : stated s.place (node h.ExportDefaultExpr ins) ≡ default_constant (suc s.place)
      ins ∷ [] =
      ap (λ l. default_constant (suc s.place) l ∷ []) (last_off ins h.Close) in
      elim
      (put-cases
      (declared_at BySymbol Es s (h.Open 0 h.ExportDefaultExpr) (ins ++ h.Close ∷ tail))
      (declared_from BySymbol Es (past s (h.Open 0 h.ExportDefaultExpr))
      (ins ++ h.Close ∷ tail)) d c) [
        | inl e ↦
            inl
            (by_default (default_constant (suc s.place) ins)
            (subst (λ l. Contains l (default_constant (suc s.place) ins)) (sym states)
            (first-there _ [])) (constant-has (suc s.place) ins)
            (ap (λ (x : Declared). x.name.sym) (sym (same_Some _ d e))))
        | inr later ↦
            elim
            (declared-in ins own (past s (h.Open 0 h.ExportDefaultExpr)) (h.Close ∷ tail) d later) [
              | inl its ↦
                  inl
                  (name-inside h.ExportDefaultExpr ins (default_constant (suc s.place) ins) states
                  (λ field ctxt c. let at =
                  field-has (suc s.place) ins field ctxt
                  c in (at.0, constant-there (suc s.place) ins _ at.1)) its)
              | inr after ↦ inr (back h.ExportDefaultExpr ins after)
            ]
      ]

  -- ---- a default function or class
  name-has : (place : ℕ) (body : List Item) (e : Element) → Contains (taken_from place body) e →
      Contains (with_name place body) e
  name-has place [] e c = none-there e c
  name-has place (h.Ident field x ctxt role ∷ rest) e c = c
  name-has place (h.Open field head ∷ rest) e c =
      later-there default_binding (taken_from place (h.Open field head ∷ rest)) e c
  name-has place (h.Hole field ∷ rest) e c = c
  name-has place (h.Close ∷ rest) e c = c

  declaration-has : (place : ℕ) (k : Head) (body : List Item) (field ctxt : ℕ) →
      Contains (taken_from place (h.Open 0 k ∷ body))
      (taken d.place (h.Ident field d.name.sym ctxt r.Binding)) →
      (other : ℕ) × Contains (default_declaration place (h.Open 0 k ∷ body))
      (taken d.place (h.Ident other d.name.sym ctxt r.Binding))
  declaration-has place k body field ctxt c =
      elim
      (there-cases (taken place (h.Open 0 k)) (taken_from (suc place) body)
      (taken d.place (h.Ident field d.name.sym ctxt r.Binding)) c) [
        | inl e ↦ cc
        | inr later ↦ (
          field,
          later-there (taken place (h.Open 0 (declaration_head k)))
              (with_name (suc place) body) _ (name-has (suc place) body _ later),
        )
      ]

  default-first : (k : Head) (body : List Item) → Begins body →
      declared_at BySymbol Es s (h.Open 0 h.ExportDefaultDecl)
      ((h.Open 0 k ∷ body) ++ h.Close ∷ tail) ≡ Some d →
      IsDeclaredBy s (node h.ExportDefaultDecl (h.Open 0 k ∷ body)) d
  default-first k _ with_a_name e = absurd (none-some d e)
  default-first k _ (with_a_node {field = f} {head = hd} {rest = rest}) e =
      let ins : List Item = h.Open 0 k ∷ h.Open f hd ∷ rest in
      let states : stated s.place (node h.ExportDefaultDecl ins) ≡ default_declaration (suc s.place)
      ins ∷ [] =
      ap (λ l. default_declaration (suc s.place) l ∷ []) (last_off ins h.Close) in
      by_default (default_declaration (suc s.place) ins)
      (subst (λ l. Contains l (default_declaration (suc s.place) ins)) (sym states)
      (first-there _ []))
      (1, omega arith, refl) (ap (λ (x : Declared). x.name.sym) (sym (same_Some _ d e)))

  default-item : (k : Head) (body : List Item) → Begins body → HasNoDefault (h.Open 0 k ∷ body) →
      Declares h.ExportDefaultDecl (h.Open 0 k ∷ body) →
      Found s h.ExportDefaultDecl (h.Open 0 k ∷ body) tail d
  unfolding Found
  default-item k body begins own c =
      let ins : List Item = h.Open 0 k ∷ body in
      let states : stated s.place (node h.ExportDefaultDecl ins) ≡ default_declaration (suc s.place)
      ins ∷ [] =
      ap (λ l. default_declaration (suc s.place) l ∷ []) (last_off ins h.Close) in
      elim
      (put-cases
      (declared_at BySymbol Es s (h.Open 0 h.ExportDefaultDecl) (ins ++ h.Close ∷ tail))
      (declared_from BySymbol Es (past s (h.Open 0 h.ExportDefaultDecl))
      (ins ++ h.Close ∷ tail)) d c) [
        | inl e ↦ inl (default-first k body begins e)
        | inr later ↦
            elim
            (declared-in ins own (past s (h.Open 0 h.ExportDefaultDecl)) (h.Close ∷ tail) d later) [
              | inl its ↦
                  inl
                  (name-inside h.ExportDefaultDecl ins (default_declaration (suc s.place) ins) states
                  (declaration-has (suc s.place) k body) its)
              | inr after ↦ inr (back h.ExportDefaultDecl ins after)
            ]
      ]

  -- ---- an import, and a list of exports
  import-item : (meta : ExportMetadata) (ins : List Item) →
      AreFit (slot 0 Many AnImport ∷ slot 1 One ASource ∷ []) ins →
      Declares (h.ImportDecl meta) ins →
      Found s (h.ImportDecl meta) ins tail d
  unfolding Found
  import-item meta ins fit c =
      elim
      (import-declares fit (text_in 1 (node (h.ImportDecl meta) ins))
      (past s (h.Open 0 (h.ImportDecl meta))) (h.Close ∷ tail) d c) [
        | inl its ↦
            (let at =
            entry-there (text_in 1 (node (h.ImportDecl meta) ins))
            (side_by_side zero (ins ++ h.Close ∷ [])) d.name.sym its in inl
            (by_import at.0 at.1 at.2))
        | inr after ↦ inr (back (h.ImportDecl meta) ins after)
      ]

  silent-item : (head : Head) (ins : List Item) → AreSilent ins →
      ((rest : List Item) → declared_at BySymbol Es s (h.Open 0 head) rest ≡ Some d → ⊥) →
      Declares head ins → Found s head ins tail d
  unfolding Found
  silent-item head ins still none c =
      elim
      (put-cases (declared_at BySymbol Es s (h.Open 0 head) (ins ++ h.Close ∷ tail))
      (declared_from BySymbol Es (past s (h.Open 0 head)) (ins ++ h.Close ∷ tail)) d c) [
        | inl e ↦ absurd (none (ins ++ h.Close ∷ tail) e)
        | inr later ↦
            inr
            (back head ins
            (silent-behind ins still (past s (h.Open 0 head)) (h.Close ∷ tail) d later))
      ]

  -- ---- each of them
  pub item-declares : (head : Head) (ins : List Item) → takes_head head AnItem ≡ true →
      AreFit (slots head r.Reference) ins → Declares head ins →
      IsDeclaredBy s (node head ins) d ⊎ Contains
      (declared_from BySymbol Es (behind s head ins) tail) d
  unfolding Found
  item-declares head ins is fit c = by head (form head) is fit c
    where
      by : (k : Head) → TopForm k → takes_head k AnItem ≡ true → AreFit (slots k r.Reference) ins →
          Declares k ins →
          IsDeclaredBy s (node k ins) d ⊎ Contains
          (declared_from BySymbol Es (behind s k ins) tail) d
      by k (as_it_is apart stmt states) is fit c =
          plain-item k ins apart (stmt is) (states s.place (node k ins)) fit c
      by k (an_import {meta}) is fit c = import-item meta ins fit c
      by k (silent still none) is fit c =
          silent-item k ins (still ins fit) (λ rest e. none s rest d e) c
      by k declared is fit c = exported-item ins (own-plain fit refl) c
      by k default_declared is fit c =
          let its = default-shape fit in
          subst (λ ins. Declares h.ExportDefaultDecl ins → Found s h.ExportDefaultDecl ins tail d)
          (sym its.is)
          (default-item its.head its.body its.begins
          (subst HasNoDefault its.is (own-plain fit refl))) c
      by k default_expression is fit c = constant-item ins (own-plain fit refl) c
      by k (elsewhere none) is fit c = absurd (false≢true (sym none ∙ is))
