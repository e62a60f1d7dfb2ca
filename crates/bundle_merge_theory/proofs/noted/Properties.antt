-- The meaning of a shorthand property of a pattern.
use Rattle.std.proofs.Common.{◌≡◌, ℕ, suc, ◌+◌, Bool, true, false, not, List, [], ◌∷◌, ◌++◌, append_assoc, length, Some, refl, sym, ap, ◌∙◌, subst, arith}
use Rattle.std.specs.Prelude.{if◌then◌else◌, fold, slice_get}
use Rattle.bundle_syntax.specs.declared.piece.Role.{Role}
use Rattle.bundle_syntax.specs.Item as h
use Rattle.bundle_syntax.specs.Item.{Item}
use Rattle.bundle_rules.specs.Places.{Spot, past, path_at}
use Rattle.bundle_rules.specs.Denotes.{Denoted, denoted_at}
use Rattle.bundle_rules.specs.Nodes.{Text}
use Rattle.bundle_rules.specs.Shorthands.{ends_at, has_default, symbol_of}
use Rattle.bundle_rules.specs.Marks as k
use Rattle.bundle_rules.specs.Marks.{word_key, begin_marks, end_marks}
use Rattle.bundle_rules.specs.Statements.{Element, taken, taken_from}
use Rattle.bundle_rules.specs.Meaning.{Sense, Replacement, Meant, Mark, NameMeans, Means, begun, ended}
use Rattle.bundle_tree_places.specs.Edits as edits
use Rattle.bundle_merge_theory.specs.noted.Nodes as n
use Rattle.bundle_merge_theory.specs.noted.Nodes.{AreNodesInTurn}
use Rattle.bundle_merge_theory.specs.noted.Marked.{shorthand_marks}
use Rattle.bundle_merge_theory.specs.noted.Agrees.{IsSpotAt}
use Rattle.bundle_merge_theory.proofs.noted.Spots.{fold-path, at-past, at-behind, at-get, at-path}
use Rattle.bundle_link.proofs.NodePaths.{spot-in, fold-place}
use Rattle.bundle_merge_theory.proofs.noted.Inner.{means_as, taken_append, Gives, gives_nothing, gives_name, closes_at}

-- a shorthand property, with or without a default
abbrev property_marks : Bool → ℕ → Text → Meant → List Mark → List Mark
property_marks false field x meant marks =
    k.Begins field h.KeyValuePatProp
    ∷ (word_key x
    ++ (k.Begins 1 h.BindingIdent ∷ k.Name 0 meant ∷ k.Ends ∷ (marks ++ k.Ends ∷ [])))
property_marks true field x meant marks =
    k.Begins field h.KeyValuePatProp
    ∷ (word_key x
    ++ (k.Begins 1 h.AssignPat ∷ k.Begins 0 h.BindingIdent ∷ k.Name 0 meant ∷ k.Ends
    ∷ (marks ++ k.Ends ∷ k.Ends ∷ [])))

abbrev default_begins : Bool → List Mark
default_begins has = if has then k.Begins 1 h.AssignPat ∷ [] else []

abbrev default_ends : Bool → List Mark
default_ends has = if has then k.Ends ∷ k.Ends ∷ [] else k.Ends ∷ []

apart : (has : Bool) (field : ℕ) (x : Text) (meant : Meant) (marks ms : List Mark) →
    (k.Begins field h.KeyValuePatProp ∷ (word_key x ++ default_begins has))
    ++ (k.Begins (if has then 0 else 1) h.BindingIdent ∷ k.Name 0 meant ∷ k.Ends
    ∷ (marks ++ (default_ends has ++ ms))) ≡ property_marks has field x meant marks ++ ms
apart false field x meant marks ms =
    ap
    (λ l.
    k.Begins field h.KeyValuePatProp
    ∷ (word_key x ++ (k.Begins 1 h.BindingIdent ∷ k.Name 0 meant ∷ k.Ends ∷ l)))
    (sym (append_assoc marks (k.Ends ∷ []) ms))
apart true field x meant marks ms =
    ap
    (λ l.
    k.Begins field h.KeyValuePatProp
    ∷ (word_key x
    ++ (k.Begins 1 h.AssignPat ∷ k.Begins 0 h.BindingIdent ∷ k.Name 0 meant ∷ k.Ends ∷ l)))
    (sym (append_assoc marks (k.Ends ∷ k.Ends ∷ []) ms))

module _ (sense : Sense) (inner : List Denoted) (s : Spot) (field : ℕ) (x : Text) (ctxt : ℕ)
    (role : Role) (default tail : List Item) where
  -- the spots behind its beginning, behind that of its name, behind the name, and behind the end
  -- of that
  abbrev pub one : Spot
  one = spot-in s field h.AssignPatProp

  abbrev pub two : Spot
  two = spot-in one 0 h.BindingIdent

  abbrev pub three : Spot
  three = past two (h.Ident 0 x ctxt role)

  abbrev pub four : Spot
  four = past three h.Close

  abbrev pub its_items : List Item
  its_items =
      h.Open field h.AssignPatProp ∷ h.Open 0 h.BindingIdent ∷ h.Ident 0 x ctxt role ∷ h.Close
      ∷ (default ++ h.Close ∷ tail)

  pub gives_property : (at : IsSpotAt sense.view.tree s its_items) (nodes : AreNodesInTurn default) →
      ((x : Replacement) → sense.replaced s.place x → ⊥) →
      ((x : Replacement) → sense.replaced one.place x → ⊥) → (d : Denoted) (meant : Meant) →
      denoted_at sense.view.reading sense.view.kind sense.view.tree two.place ≡ Some d →
      NameMeans sense inner d meant → (has : Bool) →
      not (ends_at (slice_get (default ++ h.Close ∷ tail) 0)) ≡ has → (marks : List Mark) →
      Gives sense inner four.place default marks →
      Gives sense inner s.place
      (h.Open field h.AssignPatProp ∷ h.Open 0 h.BindingIdent ∷ h.Ident 0 x ctxt role ∷ h.Close
      ∷ (default ++ h.Close ∷ []))
      (property_marks has field x meant marks)
  gives_property at nodes none_here none_inside d meant denotes means has is_default marks gives =
      record { before = whole }
    where
      tree : List Item
      tree = sense.view.tree

      at_one : IsSpotAt sense.view.tree one
          (h.Open 0 h.BindingIdent ∷ h.Ident 0 x ctxt role ∷ h.Close ∷ (default ++ h.Close ∷ tail))
      at_one = at-past _ _ at

      at_two : IsSpotAt sense.view.tree two
          (h.Ident 0 x ctxt role ∷ h.Close ∷ (default ++ h.Close ∷ tail))
      at_two = at-past _ _ at_one

      at_three : IsSpotAt sense.view.tree three (h.Close ∷ (default ++ h.Close ∷ tail))
      at_three = at-past _ _ at_two

      at_four : IsSpotAt sense.view.tree four (default ++ h.Close ∷ tail)
      at_four = at-past _ _ at_three

      five : Spot
      five = fold past four default

      its_default : has_default sense.view.tree s.place ≡ has
      its_default = ap (λ o. not (ends_at o)) (at-get at (s.place + 4) 4 refl) ∙ is_default

      its_symbol : symbol_of (slice_get sense.view.tree (s.place + 2)) ≡ x
      its_symbol = ap symbol_of (at-get at (s.place + 2) 2 refl)

      begins : begin_marks {N = Meant} sense.view.tree s.place field
          (path_at sense.view.tree s.place) h.AssignPatProp
          ≡ k.Begins field h.KeyValuePatProp ∷ (word_key x ++ default_begins has)
      begins =
          ap
          (λ y.
          k.Begins field h.KeyValuePatProp ∷ k.Begins 0 (h.IdentName y) ∷ k.Ends
          ∷ default_begins (has_default sense.view.tree s.place))
          its_symbol
          ∙ ap (λ b. k.Begins field h.KeyValuePatProp ∷ (word_key x ++ default_begins b))
          its_default

      name_begins : begin_marks {N = Meant} sense.view.tree (suc s.place) 0
          (path_at sense.view.tree (suc s.place)) h.BindingIdent
          ≡ k.Begins (if has then 0 else 1) h.BindingIdent ∷ []
      name_begins =
          let e : suc s.place ≡ s.place + 1 = omega arith in
          ap (λ path. begin_marks sense.view.tree (suc s.place) 0 path h.BindingIdent)
          (ap (path_at sense.view.tree) e ∙ at-path at_one)
          ∙ ap (λ b. k.Begins (if b then 0 else 1) h.BindingIdent ∷ []) its_default

      at_five : IsSpotAt sense.view.tree five (h.Close ∷ tail)
      at_five = at-behind default (h.Close ∷ tail) at_four

      five_place : suc (suc (suc (suc s.place))) + length default ≡ five.place
      five_place = let e = fold-place four default in omega (arith, e)

      ends : end_marks {N = Meant} sense.view.tree
          (path_at sense.view.tree (suc (suc (suc (suc s.place))) + length default))
          ≡ default_ends has
      ends =
          let path = fold-path nodes four in
          ap (end_marks sense.view.tree)
          (ap (path_at sense.view.tree) five_place ∙ at-path at_five ∙ path.1)
          ∙ ap default_ends its_default

      whole : (es : List Element) (ms : List Mark) → Means sense inner es ms →
          Means sense inner
          (taken_from s.place
          (h.Open field h.AssignPatProp ∷ h.Open 0 h.BindingIdent ∷ h.Ident 0 x ctxt role ∷ h.Close
          ∷ (default ++ h.Close ∷ [])) ++ es)
          (property_marks has field x meant marks ++ ms)
      whole es ms m =
          let p2 : suc (suc s.place) ≡ two.place = omega arith in
          let p3 : suc (suc (suc s.place)) ≡ three.place = omega arith in
          let p4 : suc (suc (suc (suc s.place))) ≡ four.place = omega arith in
          let last : Means sense inner (taken (suc (suc (suc (suc s.place))) + length default) h.Close ∷ es) (default_ends has ++ ms) =
          means_as sense inner refl (ap (λ l. l ++ ms) ends) (ended m) in
          let behind : Means sense inner (taken_from (suc (suc (suc (suc s.place)))) default ++ (taken (suc (suc (suc (suc s.place))) + length default) h.Close ∷ es)) (marks ++ (default_ends has ++ ms)) =
          means_as sense inner
          (ap
          (λ p.
          taken_from p default
          ++ (taken (suc (suc (suc (suc s.place))) + length default) h.Close ∷ es))
          (sym p4))
          refl (gives.before _ _ last) in
          let as_items : Means sense inner (taken_from (suc (suc (suc (suc s.place)))) (default ++ h.Close ∷ []) ++ es) (marks ++ (default_ends has ++ ms)) =
          means_as sense inner
          (sym (taken_append (suc (suc (suc (suc s.place)))) default (h.Close ∷ []) es))
          refl behind in
          let closed =
          (closes_at sense inner three (default ++ h.Close ∷ tail) h.BindingIdent one.place 0 four.path at_three p3 refl refl).before
          _ _ as_items in
          let name =
          (gives_name sense inner edits.Anywhere two 0 ctxt x role _ d meant at_two refl p2 denotes means).before
          _ _ closed in
          let e1 : suc s.place ≡ one.place = omega arith in
          let inside =
          means_as sense inner refl
          (ap (λ l. l ++ (k.Name 0 meant ∷ k.Ends ∷ (marks ++ (default_ends has ++ ms))))
          name_begins)
          (begun {place = suc s.place} {field = 0} {head = h.BindingIdent}
          (λ by is. none_inside by (subst (λ p. sense.replaced p by) e1 is)) name) in
          means_as sense inner refl
          (ap
          (λ l.
          l
          ++ (k.Begins (if has then 0 else 1) h.BindingIdent ∷ k.Name 0 meant ∷ k.Ends
          ∷ (marks ++ (default_ends has ++ ms))))
          begins
          ∙ apart has field x meant marks ms)
          (begun {place = s.place} {field = field} {head = h.AssignPatProp} none_here inside)

-- the same by its default
pub gives_shorthand : (sense : Sense) (inner : List Denoted) (s : Spot) (field : ℕ) (x : Text)
    (ctxt : ℕ) (role : Role) {default : List Item} → AreNodesInTurn default → (tail : List Item) →
    IsSpotAt sense.view.tree s
    (h.Open field h.AssignPatProp ∷ h.Open 0 h.BindingIdent ∷ h.Ident 0 x ctxt role ∷ h.Close
    ∷ (default ++ h.Close ∷ tail)) → ((x : Replacement) → sense.replaced s.place x → ⊥) →
    ((x : Replacement) → sense.replaced (s.place + 1) x → ⊥) → (d : Denoted) (meant : Meant) →
    denoted_at sense.view.reading sense.view.kind sense.view.tree (s.place + 1 + 1) ≡ Some d →
    NameMeans sense inner d meant → (marks : List Mark) →
    (not (ends_at (slice_get (default ++ h.Close ∷ tail) 0)) ≡ true →
    Gives sense inner (s.place + 1 + 1 + 1 + 1) default marks) →
    Gives sense inner s.place
    (h.Open field h.AssignPatProp ∷ h.Open 0 h.BindingIdent ∷ h.Ident 0 x ctxt role ∷ h.Close
    ∷ (default ++ h.Close ∷ []))
    (shorthand_marks field x meant default marks)
gives_shorthand sense inner s field x ctxt role n.nothing tail at none inside d meant denotes means
    marks gives =
    gives_property sense inner s field x ctxt role [] tail at n.nothing none inside d meant denotes
    means false refl [] (gives_nothing sense inner _)
gives_shorthand sense inner s field x ctxt role (n.name it) tail at none inside d meant denotes
    means marks gives =
    gives_property sense inner s field x ctxt role _ tail at (n.name it) none inside d meant
    denotes means true refl marks (gives refl)
gives_shorthand sense inner s field x ctxt role (n.hole it) tail at none inside d meant denotes
    means marks gives =
    gives_property sense inner s field x ctxt role _ tail at (n.hole it) none inside d meant
    denotes means true refl marks (gives refl)
gives_shorthand sense inner s field x ctxt role (n.node it more) tail at none inside d meant
    denotes means marks gives =
    gives_property sense inner s field x ctxt role _ tail at (n.node it more) none inside d meant
    denotes means true refl marks (gives refl)

-- where it has no default, or has one
pub by_default : {A : Type 0} {default : List Item} → AreNodesInTurn default → (tail : List Item) →
    (default ≡ [] → A) → (not (ends_at (slice_get (default ++ h.Close ∷ tail) 0)) ≡ true → A) → A
by_default n.nothing tail without with_one = without refl
by_default (n.name it) tail without with_one = with_one refl
by_default (n.hole it) tail without with_one = with_one refl
by_default (n.node it more) tail without with_one = with_one refl
