-- The identifiers of an item before and after it is edited correspond in turn, and the nodes
-- around them are alike.
use Rattle.std.proofs.Common.{◌≡◌, ℕ, ◌+◌, ◌&&◌, Bool, true, false, List, [], ◌∷◌, ◌++◌, Option, Some, None, codes, drop, refl, sym, ap, ◌∙◌, subst, append_assoc, append-nil, arith}
use Rattle.std.specs.Prelude.{fold, if◌then◌else◌}
use Rattle.std.specs.List.{AllZip}
use Rattle.std.proofs.lemmas.Bool.{false≢true}
use Rattle.bundle_syntax.specs.declared.piece.Role.{Role}
use Rattle.bundle_syntax.specs.declared.piece.Role.TheVariants as r
use Rattle.bundle_syntax.specs.Item as h
use Rattle.bundle_syntax.specs.Item.{Item, Head}
use Rattle.bundle_rules.specs.Places.{Around, Spot, past, in_field, Occurrence, occurrences_from}
use Rattle.bundle_rules.specs.Nodes.{Text, node_at}
use Rattle.bundle_rules.specs.Nodes as n
use Rattle.bundle_rules.specs.Entries.{is_call_head}
use Rattle.bundle_rules.specs.Reads.{property_of}
use Rattle.bundle_rules.specs.Order.{is_declarator, is_nothing, is_text}
use Rattle.bundle_rules.specs.Rebuilds.{Change, spells_out, plain_key, key_in_object}
use Rattle.bundle_tree_places.specs.Edits.{Around as Surrounding, Anywhere, InObject, InSpecifier, Edits, Nothing, Joined, Hole, Word, Name, Inside, Shorthand, node, is_occurrence, next, renamed, around_in, in_its_place, binding, pattern_in_its_place}
use Rattle.bundle_link.proofs.NodePaths.{drop-past, field-twice}
use Rattle.bundle_merge_theory.proofs.noted.Spots.{around_spot}
use Rattle.bundle_merge_theory.specs.grouped.Paths.{calls_assign_of, OfNames, NodeAlike, PathAlike, same, pair, key, defaulted, NameAlike}
use Rattle.bundle_merge_theory.proofs.grouped.WholeLemmas.{node_at-is, drop-next, keeps}
use Rattle.bundle_merge_theory.proofs.grouped.EditLemmas.{whole-before, whole-after, word-alike, empty-alike, Here, callee, no-word, Begin, begin, so, zip-append}
use Rattle.bundle_merge_theory.proofs.joined.Paths.{occurrences-append, fold-place}

zip-behind : {X Y : Type 0} (R S : X → Y → Type 0) (xs xs' : List X) (ys ys' : List Y) →
    AllZip S xs ys → AllZip R (xs ++ xs') (ys ++ ys') → AllZip R xs' ys'
zip-behind R S [] xs' [] ys' one two = two
zip-behind R S [] xs' (y ∷ ys) ys' one two = absurd one
zip-behind R S (x ∷ xs) xs' [] ys' one two = absurd one
zip-behind R S (x ∷ xs) xs' (y ∷ ys) ys' one two = zip-behind R S xs xs' ys ys' one.1 two.1

-- an end has no identifiers
occurrences-end : (s : Spot) (xs : List Item) →
    occurrences_from s (xs ++ h.Close ∷ []) ≡ occurrences_from s xs
occurrences-end s xs = occurrences-append s xs (h.Close ∷ []) ∙ append-nil (occurrences_from s xs)

-- the property of an edited node
property-of : (field : ℕ) (head : Head) {changes rest : List Change} {inside made : List Item} →
    Edits (around_in head inside) changes inside made rest →
    property_of (node field head inside) ≡ property_of (node field head made)
property-of field h.MemberExpr edits = word-alike field edits
property-of field _ edits = refl

empty-of : (field : ℕ) (head : Head) {changes rest : List Change} {inside made : List Item} →
    Edits (around_in head inside) changes inside made rest → is_declarator head ≡ true →
    is_nothing (n.in_field 1 (node field head inside))
    ≡ is_nothing (n.in_field 1 (node field head made))
empty-of field h.VarDeclarator edits e = empty-alike field edits
empty-of field _ edits e = absurd (false≢true e)

module _ (before after : List Item) (test_before test_after : ℕ → Bool)
    (of_before : OfNames before test_before) (of_after : OfNames after test_after) where
  abbrev At : Spot → Spot → List Item → List Item → Type 0
  At sb sa rb ra = Here before after test_before test_after sb sa rb ra

  abbrev TestsAlike : Occurrence → Occurrence → Type 0
  TestsAlike o p = test_before o.place ≡ test_after p.place

  abbrev Names : Spot → Spot → List Item → List Item → Type 0
  Names sb sa xb xa =
      AllZip (NameAlike before after test_before test_after) (occurrences_from sb xb)
      (occurrences_from sa xa)

  abbrev Path : List Around → List Around → Type 0
  Path p q = PathAlike before after test_before test_after p q

  -- what lies around what follows, in whichever field
  abbrev Paths : Spot → Spot → Type 0
  Paths sb sa = (m : ℕ) → Path (in_field m sb.path) (in_field m sa.path)

  -- the same with other lists behind
  at-same : (sb sa : Spot) {rb rb' ra ra' : List Item} → rb ≡ rb' → ra ≡ ra' → At sb sa rb ra →
      At sb sa rb' ra'
  at-same sb sa {rb = rb} {rb' = rb'} {ra = ra} {ra' = ra'} e e' at =
      subst (λ (l : List Item). At sb sa l ra') e (subst (λ (l : List Item). At sb sa rb l) e' at)

  -- behind the beginning of a node
  at-opened : (sb sa : Spot) (field field' : ℕ) (head head' : Head) (inside made pb pa : List Item)
      →
      At sb sa (node field head inside ++ pb) (node field' head' made ++ pa) →
      At (past sb (h.Open field head)) (past sa (h.Open field' head')) (inside ++ h.Close ∷ pb)
      (made ++ h.Close ∷ pa)
  at-opened sb sa field field' head head' inside made pb pa at =
      at-same (past sb (h.Open field head)) (past sa (h.Open field' head'))
      (append_assoc inside (h.Close ∷ []) pb) (append_assoc made (h.Close ∷ []) pa) (record {
        here = drop-next sb.place before (h.Open field head) _ at.here;
        its = drop-next sa.place after (h.Open field' head') _ at.its;
        tests = at.tests;
      })

  -- behind elements with their identifiers
  at-behind : (sb sa : Spot) (xb xa rb ra : List Item) → Names sb sa xb xa →
      At sb sa (xb ++ rb) (xa ++ ra) → At (fold past sb xb) (fold past sa xa) rb ra
  at-behind sb sa xb xa rb ra names at = record {
    here = ap (λ k. drop k before) (fold-place sb xb) ∙ drop-past before sb.place xb rb at.here;
    its = ap (λ k. drop k after) (fold-place sa xa) ∙ drop-past after sa.place xa ra at.its;
    tests =
        zip-behind TestsAlike (NameAlike before after test_before test_after)
        (occurrences_from sb xb) (occurrences_from (fold past sb xb) rb)
        (occurrences_from sa xa) (occurrences_from (fold past sa xa) ra) names
        (subst (λ l. AllZip TestsAlike l
        (occurrences_from sa xa ++ occurrences_from (fold past sa xa) ra))
        (occurrences-append sb xb rb)
        (subst (λ l. AllZip TestsAlike (occurrences_from sb (xb ++ rb)) l)
        (occurrences-append sa xa ra) at.tests));
  }

  -- what is asked of a node that stays
  assign-of : (sb sa : Spot) (field : ℕ) (head : Head) {changes rest : List Change}
      {inside made : List Item} (pb pa : List Item) →
      Edits (around_in head inside) changes inside made rest →
      At sb sa (node field head inside ++ pb) (node field head made ++ pa) →
      is_call_head head ≡ true →
      calls_assign_of before test_before sb.place ≡ calls_assign_of after test_after sa.place
  assign-of sb sa field h.CallExpr {inside = inside} {made = made} pb pa edits at e =
      ap (λ k. is_text (codes "assign") (property_of (node_at before (sb.place + 1)))
      && test_before k) (let same : sb.place + 2 ≡ sb.place + 1 + 1 = omega arith in same)
      ∙ (callee before after test_before test_after of_before of_after
      (past sb (h.Open field h.CallExpr)) (past sa (h.Open field h.CallExpr)) pb pa edits
      (at-opened sb sa field field h.CallExpr h.CallExpr inside made pb pa at)
      ∙ ap (λ k. is_text (codes "assign") (property_of (node_at after (sa.place + 1)))
      && test_after k) (let same : sa.place + 1 + 1 ≡ sa.place + 2 = omega arith in same))
  assign-of sb sa field _ pb pa edits at e = absurd (false≢true e)

  node-alike : (sb sa : Spot) (field : ℕ) (head : Head) {changes rest : List Change}
      {inside made : List Item} (pb pa : List Item) →
      Edits (around_in head inside) changes inside made rest →
      At sb sa (node field head inside ++ pb) (node field head made ++ pa) →
      NodeAlike before after test_before test_after head sb.place sa.place
  node-alike sb sa field head {inside = inside} {made = made} pb pa edits at =
      let one : node_at before sb.place ≡ node field head inside =
      node_at-is before sb.place field head (whole-before edits) pb (at.here
      ∙ ap (λ (l : List Item). h.Open field head ∷ l) (append_assoc inside (h.Close ∷ []) pb))
      in
      let two : node_at after sa.place ≡ node field head made =
      node_at-is after sa.place field head (whole-after edits) pa (at.its
      ∙ ap (λ (l : List Item). h.Open field head ∷ l) (append_assoc made (h.Close ∷ []) pa)) in
      record {
        word = ap property_of one ∙ (property-of field head edits ∙ ap property_of (sym two));
        empty =
            λ e. ap (λ l. is_nothing (n.in_field 1 l)) one
            ∙ (empty-of field head edits e ∙ ap (λ l. is_nothing (n.in_field 1 l)) (sym two));
        assign = assign-of sb sa field head pb pa edits at;
      }

  -- what is asked of the node of a pattern that is just a name
  binding-alike : (b a : ℕ) (f f' : ℕ) (rb ra : List Item) →
      drop b before ≡ h.Open f h.BindingIdent ∷ rb → drop a after ≡ h.Open f' h.BindingIdent ∷ ra →
      NodeAlike before after test_before test_after h.BindingIdent b a
  binding-alike b a f f' rb ra here its = record {
    word = no-word before b _ rb here refl ∙ sym (no-word after a _ ra its refl);
    empty = λ e. absurd (false≢true e);
    assign = λ e. absurd (false≢true e);
  }

  -- the innermost node around elements of an object literal
  pub record InLiteral (p : List Around) : Type 0 where
    pub begins : ℕ
    pub outer : List Around
    pub is : in_field 0 p ≡ around_spot h.ObjectLit begins 0 ∷ outer
    pub no_word : property_of (node_at before begins) ≡ None

  abbrev Fits : Surrounding → List Around → Type 0
  Fits InObject p = InLiteral p
  Fits InSpecifier p = Unit {0}
  Fits Anywhere p = Unit {0}

  fits-same : (around_spot : Surrounding) (p q : List Around) → in_field 0 q ≡ in_field 0 p →
      Fits around_spot p → Fits around_spot q
  fits-same InObject p q e fits =
      record { begins = fits.begins; outer = fits.outer; is = e ∙ fits.is; no_word = fits.no_word }
  fits-same InSpecifier p q e fits = tt
  fits-same Anywhere p q e fits = tt

  fits-inside : (head : Head) (inside : List Item) (begins : ℕ) (outer : List Around) (field : ℕ)
      (rest : List Item) →
      drop begins before ≡ h.Open field head ∷ rest →
      Fits (around_in head inside) (around_spot head begins 0 ∷ outer)
  fits-inside h.ObjectLit inside begins outer field rest here =
      record {
        begins = begins;
        outer = outer;
        is = refl;
        no_word = no-word before begins _ rest here refl;
      }
  fits-inside h.ImportNamedSpecifier [] begins outer field rest here = tt
  fits-inside h.ImportNamedSpecifier (x ∷ []) begins outer field rest here = tt
  fits-inside h.ImportNamedSpecifier (x ∷ y ∷ more) begins outer field rest here = tt
  fits-inside h.ExportNamedSpecifier [] begins outer field rest here = tt
  fits-inside h.ExportNamedSpecifier (x ∷ []) begins outer field rest here = tt
  fits-inside h.ExportNamedSpecifier (x ∷ y ∷ more) begins outer field rest here = tt
  fits-inside _ inside begins outer field rest here = tt

  -- one name
  one-name : (sb sa : Spot) (change : Option Change) (field : ℕ) (x : Text) (ctxt : ℕ)
      (role : Role) →
      is_occurrence role ≡ true → Paths sb sa →
      Names sb sa (h.Ident field x ctxt role ∷ []) (renamed change field x ctxt role ∷ [])
  one-name sb sa None field x ctxt r.Binding occurs paths =
      (record { role = refl; path = paths field }, tt)
  one-name sb sa None field x ctxt r.Reference occurs paths =
      (record { role = refl; path = paths field }, tt)
  one-name sb sa None field x ctxt r.Word occurs paths = absurd (false≢true occurs)
  one-name sb sa (Some change) field x ctxt r.Binding occurs paths =
      (record { role = refl; path = paths field }, tt)
  one-name sb sa (Some change) field x ctxt r.Reference occurs paths =
      (record { role = refl; path = paths field }, tt)
  one-name sb sa (Some change) field x ctxt r.Word occurs paths = absurd (false≢true occurs)

  -- and a plain word
  name-and-word : (sb sa : Spot) (change : Option Change) (field : ℕ) (x y : Text) (ctxt : ℕ)
      (role : Role) →
      is_occurrence role ≡ true → Paths sb sa →
      Names sb sa (h.Ident field x ctxt role ∷ []) (renamed change field x ctxt role
      ∷ h.Ident 1 y 0 r.Word ∷ [])
  name-and-word sb sa None field x y ctxt r.Binding occurs paths =
      (record { role = refl; path = paths field }, tt)
  name-and-word sb sa None field x y ctxt r.Reference occurs paths =
      (record { role = refl; path = paths field }, tt)
  name-and-word sb sa None field x y ctxt r.Word occurs paths = absurd (false≢true occurs)
  name-and-word sb sa (Some change) field x y ctxt r.Binding occurs paths =
      (record { role = refl; path = paths field }, tt)
  name-and-word sb sa (Some change) field x y ctxt r.Reference occurs paths =
      (record { role = refl; path = paths field }, tt)
  name-and-word sb sa (Some change) field x y ctxt r.Word occurs paths = absurd (false≢true occurs)

  -- a name in its pair
  name-paired : (sb sa : Spot) (proto : Bool) (change : Option Change) (field : ℕ) (x y : Text)
      (ctxt : ℕ) (role : Role) →
      is_occurrence role ≡ true →
      Path (in_field field sb.path) (around_spot h.KeyValueProp sa.place 1 ∷ in_field field sa.path) →
      Names sb sa (h.Ident field x ctxt role ∷ [])
      (node field h.KeyValueProp
      ((if proto then h.Open 0 h.ComputedPropName ∷ h.Open 0 (h.Str y None) ∷ h.Close ∷ h.Close
      ∷ [] else plain_key y) ++ renamed change 1 x ctxt role ∷ []))
  name-paired sb sa true None field x y ctxt r.Binding occurs path =
      (record { role = refl; path = path }, tt)
  name-paired sb sa true None field x y ctxt r.Reference occurs path =
      (record { role = refl; path = path }, tt)
  name-paired sb sa true None field x y ctxt r.Word occurs path = absurd (false≢true occurs)
  name-paired sb sa true (Some change) field x y ctxt r.Binding occurs path =
      (record { role = refl; path = path }, tt)
  name-paired sb sa true (Some change) field x y ctxt r.Reference occurs path =
      (record { role = refl; path = path }, tt)
  name-paired sb sa true (Some change) field x y ctxt r.Word occurs path =
      absurd (false≢true occurs)
  name-paired sb sa false None field x y ctxt r.Binding occurs path =
      (record { role = refl; path = path }, tt)
  name-paired sb sa false None field x y ctxt r.Reference occurs path =
      (record { role = refl; path = path }, tt)
  name-paired sb sa false None field x y ctxt r.Word occurs path = absurd (false≢true occurs)
  name-paired sb sa false (Some change) field x y ctxt r.Binding occurs path =
      (record { role = refl; path = path }, tt)
  name-paired sb sa false (Some change) field x y ctxt r.Reference occurs path =
      (record { role = refl; path = path }, tt)
  name-paired sb sa false (Some change) field x y ctxt r.Word occurs path =
      absurd (false≢true occurs)

  -- a name in its place
  name-in-object : (b : Bool) (sb sa : Spot) (change : Option Change) (field : ℕ) (x : Text)
      (ctxt : ℕ) (role : Role) →
      is_occurrence role ≡ true → InLiteral sb.path → Paths sb sa →
      Names sb sa (h.Ident field x ctxt role ∷ [])
      (if b then node field h.KeyValueProp (key_in_object x ++ renamed change 1 x ctxt role
      ∷ []) else renamed change field x ctxt role ∷ [])
  name-in-object false sb sa change field x ctxt role occurs fits paths =
      one-name sb sa change field x ctxt role occurs paths
  name-in-object true sb sa change field x ctxt role occurs fits paths =
      let is : in_field field sb.path ≡ around_spot h.ObjectLit fits.begins field ∷ fits.outer =
      sym (field-twice field 0 sb.path) ∙ ap (in_field field) fits.is in
      name-paired sb sa _ change field x x ctxt role occurs
      (subst (λ (p : List Around). Path p (around_spot h.KeyValueProp sa.place 1
      ∷ in_field field sa.path)) (sym is)
      (pair fits.begins sa.place field fits.no_word
      (subst (λ (p : List Around). Path p (in_field field sa.path)) is (paths field))))

  name-in-specifier : (b : Bool) (sb sa : Spot) (change : Option Change) (field : ℕ) (x : Text)
      (ctxt : ℕ) (role : Role) →
      is_occurrence role ≡ true → Paths sb sa →
      Names sb sa (h.Ident field x ctxt role ∷ []) (if b then renamed change field x ctxt role
      ∷ h.Ident 1 x 0 r.Word ∷ [] else renamed change field x ctxt role ∷ [])
  name-in-specifier true sb sa change field x ctxt role occurs paths =
      name-and-word sb sa change field x x ctxt role occurs paths
  name-in-specifier false sb sa change field x ctxt role occurs paths =
      one-name sb sa change field x ctxt role occurs paths

  name-in-place : (around_spot : Surrounding) (sb sa : Spot) (change : Option Change) (field : ℕ)
      (x : Text) (ctxt : ℕ) (role : Role) →
      is_occurrence role ≡ true → Fits around_spot sb.path → Paths sb sa →
      Names sb sa (h.Ident field x ctxt role ∷ []) (in_its_place around_spot change field x ctxt role)
  name-in-place Anywhere sb sa change field x ctxt role occurs fits paths =
      one-name sb sa change field x ctxt role occurs paths
  name-in-place InObject sb sa change field x ctxt role occurs fits paths =
      name-in-object (spells_out change) sb sa change field x ctxt role occurs fits paths
  name-in-place InSpecifier sb sa change field x ctxt role occurs fits paths =
      name-in-specifier (spells_out change) sb sa change field x ctxt role occurs paths

  plain-word : (sb sa : Spot) (field : ℕ) (x : Text) (ctxt : ℕ) (role : Role) →
      is_occurrence role ≡ false →
      Names sb sa (h.Ident field x ctxt role ∷ []) (h.Ident field x ctxt role ∷ [])
  plain-word sb sa field x ctxt r.Word plain = tt
  plain-word sb sa field x ctxt r.Binding plain = absurd (false≢true (sym plain))
  plain-word sb sa field x ctxt r.Reference plain = absurd (false≢true (sym plain))

  -- the shorthand property of a pattern, where the identifiers of its default value are alike
  abbrev Default : List Item → List Item → Type 0
  Default d made =
      (sb sa : Spot) (pb pa : List Item) → At sb sa (d ++ pb) (made ++ pa) → Paths sb sa →
      Names sb sa d made

  property-alike : (b a : ℕ) (f f' : ℕ) (rb ra : List Item) →
      drop b before ≡ h.Open f h.AssignPatProp ∷ rb →
      drop a after ≡ h.Open f' h.AssignPatProp ∷ ra →
      NodeAlike before after test_before test_after h.AssignPatProp b a
  property-alike b a f f' rb ra here its = record {
    word = no-word before b _ rb here refl ∙ sym (no-word after a _ ra its refl);
    empty = λ e. absurd (false≢true e);
    assign = λ e. absurd (false≢true e);
  }

  -- behind four elements of each, one of them an identifier
  abbrev past_short : Spot → ℕ → Item → Spot
  past_short s field name =
      past (past (past (past s (h.Open field h.AssignPatProp)) (h.Open 0 h.BindingIdent)) name)
      h.Close

  abbrev past_spelled : Spot → ℕ → Text → Item → Spot
  past_spelled s field x name =
      past (past (past (past
      (past (past (past s (h.Open field h.KeyValuePatProp)) (h.Open 0 (h.IdentName x)))
      h.Close) (h.Open 1 h.AssignPat)) (h.Open 0 h.BindingIdent)) name) h.Close

  drop-three : (w : List Item) (p : ℕ) (x y z : Item) (rest : List Item) →
      drop p w ≡ x ∷ y ∷ z ∷ rest → drop (p + 1 + 1 + 1) w ≡ rest
  drop-three w p x y z rest e =
      drop-next (p + 1 + 1) w z rest
      (drop-next (p + 1) w y (z ∷ rest) (drop-next p w x (y ∷ z ∷ rest) e))

  drop-four : (w : List Item) (p : ℕ) (x y z u : Item) (rest : List Item) →
      drop p w ≡ x ∷ y ∷ z ∷ u ∷ rest → drop (p + 1 + 1 + 1 + 1) w ≡ rest
  drop-four w p x y z u rest e =
      drop-next (p + 1 + 1 + 1) w u rest (drop-three w p x y z (u ∷ rest) e)

  -- the lists of a name and of what follows it
  names-then : (sb sa : Spot) (o its : Occurrence) (d made ends : List Item) →
      NameAlike before after test_before test_after o its → Names sb sa d made →
      occurrences_from sa (made ++ ends) ≡ occurrences_from sa made →
      AllZip (NameAlike before after test_before test_after)
      (o ∷ occurrences_from sb (d ++ h.Close ∷ [])) (its ∷ occurrences_from sa (made ++ ends))
  names-then sb sa o its d made ends name names e = (
    name,
    subst (λ l. AllZip (NameAlike before after test_before test_after) l
        (occurrences_from sa (made ++ ends))) (sym (occurrences-end sb d))
        (subst (λ l. AllZip (NameAlike before after test_before test_after) (occurrences_from sb d) l)
        (sym e) names),
  )

  occurrences-ends : (s : Spot) (xs : List Item) →
      occurrences_from s (xs ++ h.Close ∷ h.Close ∷ []) ≡ occurrences_from s xs
  occurrences-ends s xs =
      occurrences-append s xs (h.Close ∷ h.Close ∷ []) ∙ append-nil (occurrences_from s xs)

  -- it stays
  short-stays : (sb sa : Spot) (field : ℕ) (x y : Text) (c c' : ℕ) (role : Role)
      (d made pb pa : List Item) →
      is_occurrence role ≡ true → Default d made →
      At sb sa (node field h.AssignPatProp (node 0 h.BindingIdent (h.Ident 0 x c role ∷ []) ++ d)
      ++ pb) (node field h.AssignPatProp (node 0 h.BindingIdent (h.Ident 0 y c' role ∷ [])
      ++ made) ++ pa) →
      Paths sb sa →
      Names sb sa (node field h.AssignPatProp (node 0 h.BindingIdent (h.Ident 0 x c role ∷ [])
      ++ d)) (node field h.AssignPatProp (node 0 h.BindingIdent (h.Ident 0 y c' role ∷ [])
      ++ made))
  short-stays sb sa field x y c c' r.Word d made pb pa occurs ih at paths =
      absurd (false≢true occurs)
  short-stays sb sa field x y c c' r.Binding d made pb pa occurs ih at paths =
      let property : NodeAlike before after test_before test_after h.AssignPatProp sb.place
      sa.place = property-alike sb.place sa.place field field _ _ at.here at.its in
      let name : NodeAlike before after test_before test_after h.BindingIdent (sb.place + 1)
      (sa.place + 1) = binding-alike (sb.place + 1) (sa.place + 1) 0 0 _ _
      (drop-next sb.place before _ _ at.here) (drop-next sa.place after _ _ at.its) in
      names-then (past_short sb field (h.Ident 0 x c r.Binding))
      (past_short sa field (h.Ident 0 y c' r.Binding)) _ _ d made (h.Close ∷ [])
      (record {
        role = refl;
        path = same h.BindingIdent (sb.place + 1) (sa.place + 1) 0 name
            (same h.AssignPatProp sb.place sa.place 0 property (paths field));
      })
      (ih (past_short sb field (h.Ident 0 x c r.Binding))
      (past_short sa field (h.Ident 0 y c' r.Binding)) (h.Close ∷ pb) (h.Close ∷ pa)
      (at-same (past_short sb field (h.Ident 0 x c r.Binding))
      (past_short sa field (h.Ident 0 y c' r.Binding)) (append_assoc d (h.Close ∷ []) pb)
      (append_assoc made (h.Close ∷ []) pa)
      (record {
        here = drop-four before sb.place _ _ _ _ _ at.here;
        its = drop-four after sa.place _ _ _ _ _ at.its;
        tests = at.tests.1;
      }))
      (λ m. same h.AssignPatProp sb.place sa.place m property (paths field)))
      (occurrences-end (past_short sa field (h.Ident 0 y c' r.Binding)) made)
  short-stays sb sa field x y c c' r.Reference d made pb pa occurs ih at paths =
      let property : NodeAlike before after test_before test_after h.AssignPatProp sb.place
      sa.place = property-alike sb.place sa.place field field _ _ at.here at.its in
      let name : NodeAlike before after test_before test_after h.BindingIdent (sb.place + 1)
      (sa.place + 1) = binding-alike (sb.place + 1) (sa.place + 1) 0 0 _ _
      (drop-next sb.place before _ _ at.here) (drop-next sa.place after _ _ at.its) in
      names-then (past_short sb field (h.Ident 0 x c r.Reference))
      (past_short sa field (h.Ident 0 y c' r.Reference)) _ _ d made (h.Close ∷ [])
      (record {
        role = refl;
        path = same h.BindingIdent (sb.place + 1) (sa.place + 1) 0 name
            (same h.AssignPatProp sb.place sa.place 0 property (paths field));
      })
      (ih (past_short sb field (h.Ident 0 x c r.Reference))
      (past_short sa field (h.Ident 0 y c' r.Reference)) (h.Close ∷ pb) (h.Close ∷ pa)
      (at-same (past_short sb field (h.Ident 0 x c r.Reference))
      (past_short sa field (h.Ident 0 y c' r.Reference)) (append_assoc d (h.Close ∷ []) pb)
      (append_assoc made (h.Close ∷ []) pa)
      (record {
        here = drop-four before sb.place _ _ _ _ _ at.here;
        its = drop-four after sa.place _ _ _ _ _ at.its;
        tests = at.tests.1;
      }))
      (λ m. same h.AssignPatProp sb.place sa.place m property (paths field)))
      (occurrences-end (past_short sa field (h.Ident 0 y c' r.Reference)) made)

  -- it is spelled out, and has no default value
  short-pair : (sb sa : Spot) (field : ℕ) (x y z : Text) (c c' : ℕ) (role : Role)
      (pb pa : List Item) →
      is_occurrence role ≡ true →
      At sb sa (node field h.AssignPatProp (node 0 h.BindingIdent (h.Ident 0 x c role ∷ []) ++ [])
      ++ pb) (node field h.KeyValuePatProp
      (plain_key z ++ node 1 h.BindingIdent (h.Ident 0 y c' role ∷ [])) ++ pa) →
      Paths sb sa →
      Names sb sa (node field h.AssignPatProp (node 0 h.BindingIdent (h.Ident 0 x c role ∷ [])
      ++ [])) (node field h.KeyValuePatProp
      (plain_key z ++ node 1 h.BindingIdent (h.Ident 0 y c' role ∷ [])))
  short-pair sb sa field x y z c c' r.Word pb pa occurs at paths = absurd (false≢true occurs)
  short-pair sb sa field x y z c c' r.Binding pb pa occurs at paths =
      let name : NodeAlike before after test_before test_after h.BindingIdent (sb.place + 1)
      (sa.place + 1 + 1 + 1) = binding-alike (sb.place + 1) (sa.place + 1 + 1 + 1) 0 1 _ _
      (drop-next sb.place before _ _ at.here) (drop-three after sa.place _ _ _ _ at.its) in (
        record {
          role = refl;
          path = same h.BindingIdent (sb.place + 1) (sa.place + 1 + 1 + 1) 0
              name (key sb.place sa.place (no-word before sb.place _ _ at.here refl) (paths field));
        },
        tt,
      )
  short-pair sb sa field x y z c c' r.Reference pb pa occurs at paths =
      let name : NodeAlike before after test_before test_after h.BindingIdent (sb.place + 1)
      (sa.place + 1 + 1 + 1) = binding-alike (sb.place + 1) (sa.place + 1 + 1 + 1) 0 1 _ _
      (drop-next sb.place before _ _ at.here) (drop-three after sa.place _ _ _ _ at.its) in (
        record {
          role = refl;
          path = same h.BindingIdent (sb.place + 1) (sa.place + 1 + 1 + 1) 0
              name (key sb.place sa.place (no-word before sb.place _ _ at.here refl) (paths field));
        },
        tt,
      )

  -- it is spelled out, and has one
  short-default : (sb sa : Spot) (field : ℕ) (x y z : Text) (c c' : ℕ) (role : Role)
      (d made pb pa : List Item) →
      is_occurrence role ≡ true → Default d made →
      At sb sa (node field h.AssignPatProp (node 0 h.BindingIdent (h.Ident 0 x c role ∷ []) ++ d)
      ++ pb) (node field h.KeyValuePatProp
      (plain_key z ++ node 1 h.AssignPat (node 0 h.BindingIdent (h.Ident 0 y c' role ∷ [])
      ++ made)) ++ pa) →
      Paths sb sa →
      Names sb sa (node field h.AssignPatProp (node 0 h.BindingIdent (h.Ident 0 x c role ∷ [])
      ++ d)) (node field h.KeyValuePatProp
      (plain_key z ++ node 1 h.AssignPat (node 0 h.BindingIdent (h.Ident 0 y c' role ∷ [])
      ++ made)))
  short-default sb sa field x y z c c' r.Word d made pb pa occurs ih at paths =
      absurd (false≢true occurs)
  short-default sb sa field x y z c c' r.Binding d made pb pa occurs ih at paths =
      let four : Spot = past_short sb field (h.Ident 0 x c r.Binding) in
      let seven : Spot = past_spelled sa field z (h.Ident 0 y c' r.Binding) in
      let four_dropped : drop four.place before ≡ (d ++ h.Close ∷ []) ++ pb =
      drop-four before sb.place _ _ _ _ _ at.here in
      let three_dropped : drop (sa.place + 1 + 1 + 1) after ≡ h.Open 1 h.AssignPat
      ∷ h.Open 0 h.BindingIdent ∷ h.Ident 0 y c' r.Binding ∷ h.Close
      ∷ (((made ++ h.Close ∷ []) ++ h.Close ∷ []) ++ pa) =
      drop-three after sa.place _ _ _ _ at.its in
      let name : NodeAlike before after test_before test_after h.BindingIdent (sb.place + 1)
      (sa.place + 1 + 1 + 1 + 1) = binding-alike (sb.place + 1) (sa.place + 1 + 1 + 1 + 1) 0 0
      _ _ (drop-next sb.place before _ _ at.here)
      (drop-next (sa.place + 1 + 1 + 1) after _ _ three_dropped) in
      let around_spot : (m : ℕ) → Path (around_spot h.AssignPatProp sb.place m ∷ in_field field sb.path)
      (around_spot h.AssignPat (sa.place + 1 + 1 + 1) m ∷ around_spot h.KeyValuePatProp sa.place 1
      ∷ in_field field sa.path) =
      λ m. defaulted sb.place (sa.place + 1 + 1 + 1) sa.place m
      (no-word before sb.place _ _ at.here refl)
      (no-word after (sa.place + 1 + 1 + 1) _ _ three_dropped refl) (paths field) in
      subst (λ (l : List Item). AllZip (NameAlike before after test_before test_after)
      (occurrences_from sb
      (node field h.AssignPatProp (node 0 h.BindingIdent (h.Ident 0 x c r.Binding ∷ []) ++ d)))
      (occurrences_from sa (h.Open field h.KeyValuePatProp ∷ h.Open 0 (h.IdentName z) ∷ h.Close
      ∷ h.Open 1 h.AssignPat ∷ h.Open 0 h.BindingIdent ∷ h.Ident 0 y c' r.Binding ∷ h.Close
      ∷ l))) (sym (append_assoc made (h.Close ∷ []) (h.Close ∷ [])))
      (names-then four seven _ _ d made (h.Close ∷ h.Close ∷ [])
      (record {
        role = refl;
        path = same h.BindingIdent (sb.place + 1) (sa.place + 1 + 1 + 1 + 1) 0
            name (around_spot 0);
      })
      (ih four seven (h.Close ∷ pb) (h.Close ∷ h.Close ∷ pa)
      (at-same four seven (append_assoc d (h.Close ∷ []) pb)
      (append_assoc (made ++ h.Close ∷ []) (h.Close ∷ []) pa
      ∙ append_assoc made (h.Close ∷ []) (h.Close ∷ pa))
      (record {
        here = four_dropped;
        its = drop-four after (sa.place + 1 + 1 + 1) _ _ _ _ _
            three_dropped;
        tests = at.tests.1;
      }))
      around_spot)
      (occurrences-ends seven made))
  short-default sb sa field x y z c c' r.Reference d made pb pa occurs ih at paths =
      let four : Spot = past_short sb field (h.Ident 0 x c r.Reference) in
      let seven : Spot = past_spelled sa field z (h.Ident 0 y c' r.Reference) in
      let four_dropped : drop four.place before ≡ (d ++ h.Close ∷ []) ++ pb =
      drop-four before sb.place _ _ _ _ _ at.here in
      let three_dropped : drop (sa.place + 1 + 1 + 1) after ≡ h.Open 1 h.AssignPat
      ∷ h.Open 0 h.BindingIdent ∷ h.Ident 0 y c' r.Reference ∷ h.Close
      ∷ (((made ++ h.Close ∷ []) ++ h.Close ∷ []) ++ pa) =
      drop-three after sa.place _ _ _ _ at.its in
      let name : NodeAlike before after test_before test_after h.BindingIdent (sb.place + 1)
      (sa.place + 1 + 1 + 1 + 1) = binding-alike (sb.place + 1) (sa.place + 1 + 1 + 1 + 1) 0 0
      _ _ (drop-next sb.place before _ _ at.here)
      (drop-next (sa.place + 1 + 1 + 1) after _ _ three_dropped) in
      let around_spot : (m : ℕ) → Path (around_spot h.AssignPatProp sb.place m ∷ in_field field sb.path)
      (around_spot h.AssignPat (sa.place + 1 + 1 + 1) m ∷ around_spot h.KeyValuePatProp sa.place 1
      ∷ in_field field sa.path) =
      λ m. defaulted sb.place (sa.place + 1 + 1 + 1) sa.place m
      (no-word before sb.place _ _ at.here refl)
      (no-word after (sa.place + 1 + 1 + 1) _ _ three_dropped refl) (paths field) in
      subst (λ (l : List Item). AllZip (NameAlike before after test_before test_after)
      (occurrences_from sb
      (node field h.AssignPatProp (node 0 h.BindingIdent (h.Ident 0 x c r.Reference ∷ [])
      ++ d))) (occurrences_from sa (h.Open field h.KeyValuePatProp ∷ h.Open 0 (h.IdentName z)
      ∷ h.Close ∷ h.Open 1 h.AssignPat ∷ h.Open 0 h.BindingIdent ∷ h.Ident 0 y c' r.Reference
      ∷ h.Close ∷ l))) (sym (append_assoc made (h.Close ∷ []) (h.Close ∷ [])))
      (names-then four seven _ _ d made (h.Close ∷ h.Close ∷ [])
      (record {
        role = refl;
        path = same h.BindingIdent (sb.place + 1) (sa.place + 1 + 1 + 1 + 1) 0
            name (around_spot 0);
      })
      (ih four seven (h.Close ∷ pb) (h.Close ∷ h.Close ∷ pa)
      (at-same four seven (append_assoc d (h.Close ∷ []) pb)
      (append_assoc (made ++ h.Close ∷ []) (h.Close ∷ []) pa
      ∙ append_assoc made (h.Close ∷ []) (h.Close ∷ pa))
      (record {
        here = four_dropped;
        its = drop-four after (sa.place + 1 + 1 + 1) _ _ _ _ _
            three_dropped;
        tests = at.tests.1;
      }))
      around_spot)
      (occurrences-ends seven made))

  -- what stands in its place
  short : (b : Bool) (change : Option Change) (d made : List Item) (sb sa : Spot) (field : ℕ)
      (x : Text) (ctxt : ℕ) (role : Role) (pb pa : List Item) →
      is_occurrence role ≡ true → Begin d made → Default d made →
      At sb sa (node field h.AssignPatProp (binding None 0 x ctxt role ++ d) ++ pb)
      ((if b then node field h.KeyValuePatProp
      (plain_key x ++ pattern_in_its_place change x ctxt role made) else node field
      h.AssignPatProp (binding change 0 x ctxt role ++ made)) ++ pa) →
      Paths sb sa →
      Names sb sa (node field h.AssignPatProp (binding None 0 x ctxt role ++ d))
      (if b then node field h.KeyValuePatProp
      (plain_key x ++ pattern_in_its_place change x ctxt role made) else node field
      h.AssignPatProp (binding change 0 x ctxt role ++ made))
  short false None d made sb sa field x ctxt role pb pa occurs begins ih at paths =
      short-stays sb sa field x x ctxt ctxt role d made pb pa occurs ih at paths
  short false (Some change) d made sb sa field x ctxt role pb pa occurs begins ih at paths =
      short-stays sb sa field x change.ident.0 ctxt change.ident.1 role d made pb pa occurs ih at
      paths
  short true change (one ∷ more) [] sb sa field x ctxt role pb pa occurs begins ih at paths =
      elim begins [ ]
  short true None [] [] sb sa field x ctxt role pb pa occurs begins ih at paths =
      short-pair sb sa field x x x ctxt ctxt role pb pa occurs at paths
  short true (Some change) [] [] sb sa field x ctxt role pb pa occurs begins ih at paths =
      short-pair sb sa field x change.ident.0 x ctxt change.ident.1 role pb pa occurs at paths
  short true None d (one ∷ more) sb sa field x ctxt role pb pa occurs begins ih at paths =
      short-default sb sa field x x x ctxt ctxt role d (one ∷ more) pb pa occurs ih at paths
  short true (Some change) d (one ∷ more) sb sa field x ctxt role pb pa occurs begins ih at paths =
      short-default sb sa field x change.ident.0 x ctxt change.ident.1 role d (one ∷ more) pb pa
      occurs ih at paths

  -- the identifiers of edited elements
  pub names-alike : {around_spot : Surrounding} {changes rest : List Change} {xb xa : List Item} →
      Edits around_spot changes xb xa rest → (sb sa : Spot) (pb pa : List Item) → Fits around_spot sb.path →
      At sb sa (xb ++ pb) (xa ++ pa) → Paths sb sa → Names sb sa xb xa
  names-alike Nothing sb sa pb pa fits at paths = tt
  names-alike {around_spot = around_spot} (Joined {first = first} {made_first = made_first} {second = second}
      {made_second = made_second} one two) sb sa pb pa fits at paths =
      let names : Names sb sa first made_first = names-alike one sb sa (second ++ pb)
      (made_second ++ pa) fits
      (at-same sb sa (append_assoc first second pb) (append_assoc made_first made_second pa)
      at) paths in
      let more : Names (fold past sb first) (fold past sa made_first) second made_second =
      names-alike two (fold past sb first) (fold past sa made_first) pb pa
      (fits-same around_spot sb.path (fold past sb first).path (keeps (whole-before one) sb 0) fits)
      (at-behind sb sa first made_first (second ++ pb) (made_second ++ pa) names
      (at-same sb sa (append_assoc first second pb) (append_assoc made_first made_second pa)
      at))
      (λ m. subst (λ (p : List Around). Path p (in_field m (fold past sa made_first).path))
      (sym (keeps (whole-before one) sb m))
      (subst (λ (q : List Around). Path (in_field m sb.path) q)
      (sym (keeps (whole-after one) sa m)) (paths m))) in
      subst (λ l. AllZip (NameAlike before after test_before test_after) l
      (occurrences_from sa (made_first ++ made_second)))
      (sym (occurrences-append sb first second))
      (subst (λ l. AllZip (NameAlike before after test_before test_after)
      (occurrences_from sb first ++ occurrences_from (fold past sb first) second) l)
      (sym (occurrences-append sa made_first made_second))
      (zip-append (NameAlike before after test_before test_after) (occurrences_from sb first)
      (occurrences_from (fold past sb first) second) (occurrences_from sa made_first)
      (occurrences_from (fold past sa made_first) made_second) names more))
  names-alike (Hole field) sb sa pb pa fits at paths = tt
  names-alike (Word field x ctxt role plain) sb sa pb pa fits at paths =
      plain-word sb sa field x ctxt role plain
  names-alike (Name around_spot {changes = changes} field x ctxt role occurs) sb sa pb pa fits at paths
      =
      name-in-place around_spot sb sa (next changes) field x ctxt role occurs fits paths
  names-alike (Inside field head {inside = inside} {made = made} plain one) sb sa pb pa fits at
      paths =
      let names : Names (past sb (h.Open field head)) (past sa (h.Open field head)) inside made =
      names-alike one (past sb (h.Open field head)) (past sa (h.Open field head)) (h.Close ∷ pb)
      (h.Close ∷ pa)
      (fits-inside head inside sb.place (in_field field sb.path) field
      ((inside ++ h.Close ∷ []) ++ pb) at.here)
      (at-opened sb sa field field head head inside made pb pa at)
      (λ m. same head sb.place sa.place m (node-alike sb sa field head pb pa one at) (paths field))
      in
      subst (λ l. AllZip (NameAlike before after test_before test_after) l
      (occurrences_from (past sa (h.Open field head)) (made ++ h.Close ∷ [])))
      (sym (occurrences-end (past sb (h.Open field head)) inside))
      (subst (λ l. AllZip (NameAlike before after test_before test_after)
      (occurrences_from (past sb (h.Open field head)) inside) l)
      (sym (occurrences-end (past sa (h.Open field head)) made)) names)
  names-alike (Shorthand {changes = changes} field x ctxt role {default = d} {made = made} occurs
      one) sb sa pb pa fits at paths =
      short (spells_out (next changes)) (next changes) d made sb sa field x ctxt role pb pa occurs
      (begin one so) (λ s t p q here its. names-alike one s t p q tt here its) at paths
