-- The identifiers of an item before and after it is edited correspond in turn, and the nodes
-- around them are alike.
use Rattle.std.proofs.Common.{◌≡◌, ℕ, zero, suc, ◌+◌, ◌&&◌, Bool, true, false, cond, List, [], ◌∷◌, ◌++◌, Option, Some, None, codes, drop, refl, sym, ap, ◌∙◌, subst, append_assoc}
use Rattle.std.specs.Prelude.{filter, if◌then◌else◌}
use Rattle.std.specs.List.{AllZip}
use Rattle.std.proofs.lemmas.Bool.{false≢true}
use Rattle.bundle_syntax.specs.declared.piece.Role.{Role}
use Rattle.bundle_syntax.specs.declared.piece.Role.TheVariants as r
use Rattle.bundle_syntax.specs.Item as h
use Rattle.bundle_syntax.specs.Item.{Item, Head}
use Rattle.bundle_rules.specs.Places.{Spot, past, Occurrence, occurrences_from}
use Rattle.bundle_rules.specs.Nodes.{Text, put_first, side_by_side, parts, first_or_nothing, child, begins_in, node_at}
use Rattle.bundle_rules.specs.Nodes as n
use Rattle.bundle_rules.specs.Reads.{is_member, plain_word, property_of}
use Rattle.bundle_rules.specs.Order.{is_nothing, is_text}
use Rattle.bundle_rules.specs.Rebuilds.{Change, spells_out, plain_key, key_in_object}
use Rattle.bundle_tree_places.specs.Edits.{Around as Surrounding, Anywhere, InObject, InSpecifier, Edits, Nothing, Joined, Hole, Word, Name, Inside, Shorthand, node, next, renamed, around_in, in_its_place, binding, pattern_in_its_place}
use Rattle.bundle_merge_theory.specs.grouped.Paths.{is_named_item, OfNames}
use Rattle.bundle_merge_theory.proofs.grouped.WholeLemmas.{Whole, nothing, hole, name, inner, joined, beside, beside-node, parts-node, node_at-is, drop-next, keeps}

-- ---- what is edited is whole, before and after
whole-key : (is_proto : Bool) (x : Text) →
    Whole (if is_proto then h.Open 0 h.ComputedPropName ∷ h.Open 0 (h.Str x None) ∷ h.Close
    ∷ h.Close ∷ [] else plain_key x)
whole-key true x = inner 0 h.ComputedPropName (inner 0 (h.Str x None) nothing)
whole-key false x = inner 0 (h.IdentName x) nothing

pub whole-renamed : (change : Option Change) (field : ℕ) (x : Text) (ctxt : ℕ) (role : Role) →
    Whole (renamed change field x ctxt role ∷ [])
whole-renamed None field x ctxt role = name field x ctxt role
whole-renamed (Some change) field x ctxt role = name field change.ident.0 change.ident.1 role

whole-either : (b : Bool) {xs ys : List Item} → Whole xs → Whole ys → Whole (if b then xs else ys)
whole-either true one two = one
whole-either false one two = two

whole-place : (around : Surrounding) (change : Option Change) (field : ℕ) (x : Text) (ctxt : ℕ)
    (role : Role) →
    Whole (in_its_place around change field x ctxt role)
whole-place Anywhere change field x ctxt role = whole-renamed change field x ctxt role
whole-place InObject change field x ctxt role =
    whole-either (spells_out change)
    (inner field h.KeyValueProp (joined (whole-key _ x) (whole-renamed change 1 x ctxt role)))
    (whole-renamed change field x ctxt role)
whole-place InSpecifier change field x ctxt role =
    whole-either (spells_out change)
    (joined (whole-renamed change field x ctxt role) (name 1 x 0 r.Word))
    (whole-renamed change field x ctxt role)

pub whole-binding : (change : Option Change) (field : ℕ) (x : Text) (ctxt : ℕ) (role : Role) →
    Whole (binding change field x ctxt role)
whole-binding change field x ctxt role =
    inner field h.BindingIdent (whole-renamed change 0 x ctxt role)

pub whole-pattern : (change : Option Change) (x : Text) (ctxt : ℕ) (role : Role) {made : List Item}
    →
    Whole made → Whole (pattern_in_its_place change x ctxt role made)
whole-pattern change x ctxt role {made = []} whole = whole-binding change 1 x ctxt role
whole-pattern change x ctxt role {made = first ∷ more} whole =
    inner 1 h.AssignPat (joined (whole-binding change 0 x ctxt role) whole)

pub whole-before : {around : Surrounding} {changes rest : List Change} {before after : List Item} →
    Edits around changes before after rest → Whole before
whole-before Nothing = nothing
whole-before (Joined one two) = joined (whole-before one) (whole-before two)
whole-before (Hole field) = hole field
whole-before (Word field x ctxt role plain) = name field x ctxt role
whole-before (Name around field x ctxt role occurs) = name field x ctxt role
whole-before (Inside field head plain one) = inner field head (whole-before one)
whole-before (Shorthand field x ctxt role occurs one) =
    inner field h.AssignPatProp (joined (whole-binding None 0 x ctxt role) (whole-before one))

pub whole-after : {around : Surrounding} {changes rest : List Change} {before after : List Item} →
    Edits around changes before after rest → Whole after
whole-after Nothing = nothing
whole-after (Joined one two) = joined (whole-after one) (whole-after two)
whole-after (Hole field) = hole field
whole-after (Word field x ctxt role plain) = name field x ctxt role
whole-after (Name around {changes = changes} field x ctxt role occurs) =
    whole-place around (next changes) field x ctxt role
whole-after (Inside field head plain one) = inner field head (whole-after one)
whole-after (Shorthand {changes = changes} field x ctxt role occurs one) =
    whole-either (spells_out (next changes))
    (inner field h.KeyValuePatProp
    (joined (inner 0 (h.IdentName x) nothing)
    (whole-pattern (next changes) x ctxt role (whole-after one))))
    (inner field h.AssignPatProp
    (joined (whole-binding (next changes) 0 x ctxt role) (whole-after one)))

-- ---- what lies directly in a node, before and after
pub zip-append : {X Y : Type 0} (R : X → Y → Type 0) (xs xs' : List X) (ys ys' : List Y) →
    AllZip R xs ys → AllZip R xs' ys' → AllZip R (xs ++ xs') (ys ++ ys')
zip-append R [] xs' [] ys' one two = two
zip-append R [] xs' (y ∷ ys) ys' one two = absurd one
zip-append R (x ∷ xs) xs' [] ys' one two = absurd one
zip-append R (x ∷ xs) xs' (y ∷ ys) ys' one two = (one.0, zip-append R xs xs' ys ys' one.1 two)

-- the field, and the text if it is a plain word
pub record PartAlike (one two : List Item) : Type 0 where
  pub field : begins_in 1 one ≡ begins_in 1 two
  pub word : plain_word one ≡ plain_word two

-- an edited part keeps its nodes, except in a specifier
pub data Keeps : Surrounding → Type 0 where
  anywhere : Keeps Anywhere
  in_object : Keeps InObject

parts-renamed : (change : Option Change) (field : ℕ) (x : Text) (ctxt : ℕ) (role : Role) →
    AllZip PartAlike ((h.Ident field x ctxt role ∷ []) ∷ [])
    (side_by_side zero (renamed change field x ctxt role ∷ []))
parts-renamed None field x ctxt role = (record { field = refl; word = refl }, tt)
parts-renamed (Some change) field x ctxt role = (record { field = refl; word = refl }, tt)

parts-in : {around : Surrounding} → Keeps around →
    (b : Bool) (change : Option Change) (field : ℕ) (x : Text) (ctxt : ℕ) (role : Role) →
    AllZip PartAlike ((h.Ident field x ctxt role ∷ []) ∷ [])
    (side_by_side zero
    (if b then node field h.KeyValueProp (key_in_object x ++ renamed change 1 x ctxt role ∷ [])
    else renamed change field x ctxt role ∷ []))
parts-in keeps false change field x ctxt role = parts-renamed change field x ctxt role
parts-in keeps true change field x ctxt role =
    subst (λ l. AllZip PartAlike ((h.Ident field x ctxt role ∷ []) ∷ []) l)
    (sym (beside-node field h.KeyValueProp
    (joined (whole-key _ x) (whole-renamed change 1 x ctxt role)) []))
    (record { field = refl; word = refl }, tt)

parts-place : (around : Surrounding) → Keeps around →
    (change : Option Change) (field : ℕ) (x : Text) (ctxt : ℕ) (role : Role) →
    AllZip PartAlike ((h.Ident field x ctxt role ∷ []) ∷ [])
    (side_by_side zero (in_its_place around change field x ctxt role))
parts-place Anywhere keeps change field x ctxt role = parts-renamed change field x ctxt role
parts-place InObject keeps change field x ctxt role =
    parts-in keeps (spells_out change) change field x ctxt role
parts-place InSpecifier keeps change field x ctxt role = elim keeps [ ]

-- one node each, of this field, neither of which is a plain word or both are the same
one-part : (field : ℕ) (one two : Head) {inside made : List Item} → Whole inside → Whole made →
    plain_word (node field one inside) ≡ plain_word (node field two made) →
    AllZip PartAlike (side_by_side zero (node field one inside))
    (side_by_side zero (node field two made))
one-part field one two {inside = inside} {made = made} whole whole_made word =
    subst (λ l. AllZip PartAlike l (side_by_side zero (node field two made)))
    (sym (beside-node field one whole []))
    (subst (λ l. AllZip PartAlike (node field one inside ∷ []) l)
    (sym (beside-node field two whole_made [])) (record { field = refl; word = word }, tt))

parts-short : (b : Bool) (change : Option Change) (field : ℕ) (x : Text) (ctxt : ℕ) (role : Role)
    {default made : List Item} →
    Whole default → Whole made →
    AllZip PartAlike (side_by_side zero
    (node field h.AssignPatProp (binding None 0 x ctxt role ++ default)))
    (side_by_side zero
    (if b then node field h.KeyValuePatProp
    (plain_key x ++ pattern_in_its_place change x ctxt role made) else node field
    h.AssignPatProp (binding change 0 x ctxt role ++ made)))
parts-short true change field x ctxt role whole whole_made =
    one-part field h.AssignPatProp h.KeyValuePatProp
    (joined (whole-binding None 0 x ctxt role) whole)
    (joined (inner 0 (h.IdentName x) nothing) (whole-pattern change x ctxt role whole_made))
    refl
parts-short false change field x ctxt role whole whole_made =
    one-part field h.AssignPatProp h.AssignPatProp
    (joined (whole-binding None 0 x ctxt role) whole)
    (joined (whole-binding change 0 x ctxt role) whole_made) refl

pub parts-alike : {around : Surrounding} {changes rest : List Change} {before after : List Item} →
    Edits around changes before after rest → Keeps around →
    AllZip PartAlike (side_by_side zero before) (side_by_side zero after)
parts-alike Nothing keeps = tt
parts-alike (Joined {first = first} {made_first = made_first} {second = second}
    {made_second = made_second} one two) keeps =
    subst (λ l. AllZip PartAlike l (side_by_side zero (made_first ++ made_second)))
    (sym (beside (whole-before one) second))
    (subst (λ l. AllZip PartAlike (side_by_side zero first ++ side_by_side zero second) l)
    (sym (beside (whole-after one) made_second))
    (zip-append PartAlike (side_by_side zero first) (side_by_side zero second)
    (side_by_side zero made_first) (side_by_side zero made_second) (parts-alike one keeps)
    (parts-alike two keeps)))
parts-alike (Hole field) keeps = (record { field = refl; word = refl }, tt)
parts-alike (Word field x ctxt role plain) keeps = (record { field = refl; word = refl }, tt)
parts-alike (Name around {changes = changes} field x ctxt role occurs) keeps =
    parts-place around keeps (next changes) field x ctxt role
parts-alike (Inside field head plain one) keeps =
    one-part field head head (whole-before one) (whole-after one) refl
parts-alike (Shorthand {changes = changes} field x ctxt role occurs one) keeps =
    parts-short (spells_out (next changes)) (next changes) field x ctxt role (whole-before one)
    (whole-after one)

-- those in the second field
second-alike : (ones twos : List (List Item)) → AllZip PartAlike ones twos →
    AllZip PartAlike (filter (begins_in 1) ones) (filter (begins_in 1) twos)
second-alike [] [] zip = tt
second-alike [] (two ∷ twos) zip = absurd zip
second-alike (one ∷ ones) [] zip = absurd zip
second-alike (one ∷ ones) (two ∷ twos) zip =
    by (begins_in 1 one) (begins_in 1 two) zip.0.field (second-alike ones twos zip.1)
  where
    by : (b c : Bool) → b ≡ c →
        AllZip PartAlike (filter (begins_in 1) ones) (filter (begins_in 1) twos) →
        AllZip PartAlike (cond b (one ∷ filter (begins_in 1) ones) (filter (begins_in 1) ones))
        (cond c (two ∷ filter (begins_in 1) twos) (filter (begins_in 1) twos))
    by true true e more = (zip.0, more)
    by false false e more = more
    by true false e more = absurd cc
    by false true e more = absurd cc

first-word : (ones twos : List (List Item)) → AllZip PartAlike ones twos →
    plain_word (first_or_nothing ones) ≡ plain_word (first_or_nothing twos)
first-word [] [] zip = refl
first-word [] (two ∷ twos) zip = absurd zip
first-word (one ∷ ones) [] zip = absurd zip
first-word (one ∷ ones) (two ∷ twos) zip = zip.0.word

none-alike : (ones twos : List (List Item)) → AllZip PartAlike ones twos →
    is_nothing ones ≡ is_nothing twos
none-alike [] [] zip = refl
none-alike [] (two ∷ twos) zip = absurd zip
none-alike (one ∷ ones) [] zip = absurd zip
none-alike (one ∷ ones) (two ∷ twos) zip = refl

-- what lies in the second field of an edited node
seconds : (field : ℕ) (head : Head) {changes rest : List Change} {inside made : List Item} →
    Edits Anywhere changes inside made rest →
    AllZip PartAlike (n.in_field 1 (node field head inside)) (n.in_field 1 (node field head made))
seconds field head {inside = inside} {made = made} edits =
    second-alike (parts (node field head inside)) (parts (node field head made))
    (subst (λ l. AllZip PartAlike l (parts (node field head made)))
    (sym (parts-node field head (whole-before edits)))
    (subst (λ l. AllZip PartAlike (side_by_side zero inside) l)
    (sym (parts-node field head (whole-after edits))) (parts-alike edits anywhere)))

pub word-moved : (field field' : ℕ) {changes rest : List Change} {inside made : List Item} →
    Edits Anywhere changes inside made rest →
    property_of (node field h.MemberExpr inside) ≡ property_of (node field' h.MemberExpr made)
word-moved field field' edits = first-word _ _ (seconds field h.MemberExpr edits)

pub word-alike : (field : ℕ) {changes rest : List Change} {inside made : List Item} →
    Edits Anywhere changes inside made rest →
    property_of (node field h.MemberExpr inside) ≡ property_of (node field h.MemberExpr made)
word-alike field edits = first-word _ _ (seconds field h.MemberExpr edits)

pub empty-alike : (field : ℕ) {changes rest : List Change} {inside made : List Item} →
    Edits Anywhere changes inside made rest →
    is_nothing (n.in_field 1 (node field h.VarDeclarator inside))
    ≡ is_nothing (n.in_field 1 (node field h.VarDeclarator made))
empty-alike field edits = none-alike _ _ (seconds field h.VarDeclarator edits)

-- ---- how edited elements begin
-- what is neither an identifier nor the read of a member
abbrev pub is_other : Item → Bool
is_other (h.Open field h.MemberExpr) = false
is_other (h.Open field head) = true
is_other (h.Ident field sym ctxt role) = false
is_other (h.Hole field) = true
is_other h.Close = false

-- both are empty, begin with identifiers of one role, with reads of members that are edited, or
-- with something else
pub data Begin : List Item → List Item → Type 0 where
  empty : Begin [] []
  named : (f f' : ℕ) (x x' : Text) (c c' : ℕ) (role : Role) {more more' : List Item} →
      Begin (h.Ident f x c role ∷ more) (h.Ident f' x' c' role ∷ more')
  member : (f f' : ℕ) (more more' : List Item) {changes rest : List Change}
      {inside made tail tail' : List Item} →
      Edits Anywhere changes inside made rest → tail ≡ inside ++ h.Close ∷ more →
      tail' ≡ made ++ h.Close ∷ more' →
      Begin (h.Open f h.MemberExpr ∷ tail) (h.Open f' h.MemberExpr ∷ tail')
  other : (x x' : Item) {more more' : List Item} → is_other x ≡ true → is_other x' ≡ true →
      Begin (x ∷ more) (x' ∷ more')

begin-joined : {xs xs' ys ys' : List Item} → Begin xs xs' → Begin ys ys' →
    Begin (xs ++ ys) (xs' ++ ys')
begin-joined empty two = two
begin-joined (named f f' x x' c c' role) two = named f f' x x' c c' role
begin-joined {ys = ys} {ys' = ys'} (member f f' more more' {inside = inside} {made = made} edits e
    e') two =
    member f f' (more ++ ys) (more' ++ ys') edits (ap (λ (l : List Item). l ++ ys) e
    ∙ append_assoc inside (h.Close ∷ more) ys) (ap (λ (l : List Item). l ++ ys') e'
    ∙ append_assoc made (h.Close ∷ more') ys')
begin-joined (other x x' o o') two = other x x' o o'

begin-renamed : (change : Option Change) (field : ℕ) (x : Text) (ctxt : ℕ) (role : Role) →
    Begin (h.Ident field x ctxt role ∷ []) (renamed change field x ctxt role ∷ [])
begin-renamed None field x ctxt role = named field field x x ctxt ctxt role
begin-renamed (Some change) field x ctxt role =
    named field field x change.ident.0 ctxt change.ident.1 role

begin-inside : (field : ℕ) (head : Head) {changes rest : List Change} {inside made : List Item} →
    Edits (around_in head inside) changes inside made rest →
    Begin (node field head inside) (node field head made)
begin-inside field h.MemberExpr edits = member field field [] [] edits refl refl
begin-inside field head edits = other (h.Open field head) (h.Open field head) refl refl

begin-short : (b : Bool) (change : Option Change) (field : ℕ) (x : Text) (ctxt : ℕ) (role : Role)
    (default made : List Item) →
    Begin (node field h.AssignPatProp (binding None 0 x ctxt role ++ default))
    (if b then node field h.KeyValuePatProp
    (plain_key x ++ pattern_in_its_place change x ctxt role made) else node field
    h.AssignPatProp (binding change 0 x ctxt role ++ made))
begin-short true change field x ctxt role default made = other _ _ refl refl
begin-short false change field x ctxt role default made = other _ _ refl refl

-- where elements stand that are just nodes
pub data IsAnywhere : Surrounding → Type 0 where
  so : IsAnywhere Anywhere

pub begin : {around : Surrounding} {changes rest : List Change} {before after : List Item} →
    Edits around changes before after rest → IsAnywhere around → Begin before after
begin Nothing is = empty
begin (Joined one two) is = begin-joined (begin one is) (begin two is)
begin (Hole field) is = other _ _ refl refl
begin (Word field x ctxt role plain) is = named field field x x ctxt ctxt role
begin (Name Anywhere {changes = changes} field x ctxt role occurs) is =
    begin-renamed (next changes) field x ctxt role
begin (Name InObject field x ctxt role occurs) is = elim is [ ]
begin (Name InSpecifier field x ctxt role occurs) is = elim is [ ]
begin (Inside field head plain one) is = begin-inside field head one
begin (Shorthand {changes = changes} field x ctxt role {default = default} {made = made} occurs
    one) is =
    begin-short (spells_out (next changes)) (next changes) field x ctxt role default made

-- ---- no word
abbrev pub begins_member : Item → Bool
begins_member (h.Open field head) = is_member head
begins_member (h.Ident field sym ctxt role) = false
begins_member (h.Hole field) = false
begins_member h.Close = false

other-head : (field : ℕ) (head : Head) → is_other (h.Open field head) ≡ true →
    is_member head ≡ false
other-head field h.MemberExpr e = absurd (false≢true e)
other-head field _ e = refl

other-no_member : (x : Item) → is_other x ≡ true → begins_member x ≡ false
other-no_member (h.Open field head) e = other-head field head e
other-no_member (h.Ident field sym ctxt role) e = refl
other-no_member (h.Hole field) e = refl
other-no_member h.Close e = refl

pub no-word : (w : List Item) (place : ℕ) (x : Item) (rest : List Item) → drop place w ≡ x ∷ rest →
    begins_member x ≡ false → property_of (node_at w place) ≡ None
no-word w place x rest e none =
    ap (λ (l : List Item). property_of (first_or_nothing (side_by_side zero l))) e ∙ by x none
  where
    opened : (field : ℕ) (head : Head) (nodes : List (List Item)) → is_member head ≡ false →
        property_of (first_or_nothing (put_first (h.Open field head) nodes)) ≡ None
    opened field head [] none =
        ap (λ b. if b then plain_word (child 1 (h.Open field head ∷ [])) else None) none
    opened field head (one ∷ more) none =
        ap (λ b. if b then plain_word (child 1 (h.Open field head ∷ one)) else None) none

    by : (y : Item) → begins_member y ≡ false →
        property_of (first_or_nothing (side_by_side zero (y ∷ rest))) ≡ None
    by (h.Open field head) none = opened field head (side_by_side (suc zero) rest) none
    by (h.Ident field sym ctxt role) none = refl
    by (h.Hole field) none = refl
    by h.Close none = refl

-- ---- the two items, side by side
module _ (before after : List Item) (test_before test_after : ℕ → Bool) where
  -- what stands behind two spots, and the tests there
  pub record Here (sb sa : Spot) (rb ra : List Item) : Type 0 where
    pub here : drop sb.place before ≡ rb
    pub its : drop sa.place after ≡ ra
    pub tests : AllZip (λ (o p : Occurrence). test_before o.place ≡ test_after p.place)
        (occurrences_from sb rb) (occurrences_from sa ra)

  module _ (of_before : OfNames before test_before) (of_after : OfNames after test_after) where
    -- the tests at the first elements
    first-tests : (sb sa : Spot) {rb ra : List Item} (xb xa : List Item) → Begin rb ra →
        Here sb sa (rb ++ h.Close ∷ xb) (ra ++ h.Close ∷ xa) →
        test_before sb.place ≡ test_after sa.place
    first-tests sb sa xb xa empty at =
        of_before.none sb.place h.Close xb at.here refl
        ∙ sym (of_after.none sa.place h.Close xa at.its refl)
    first-tests sb sa xb xa (named f f' x x' c c' r.Word) at =
        of_before.none sb.place _ _ at.here refl ∙ sym (of_after.none sa.place _ _ at.its refl)
    first-tests sb sa xb xa (named f f' x x' c c' r.Binding) at = at.tests.0
    first-tests sb sa xb xa (named f f' x x' c c' r.Reference) at = at.tests.0
    first-tests sb sa xb xa (member f f' more more' edits e e') at =
        of_before.none sb.place _ _ at.here refl ∙ sym (of_after.none sa.place _ _ at.its refl)
    first-tests sb sa xb xa (other x x' {more = more} {more' = more'} o o') at =
        of_before.none sb.place x (more ++ h.Close ∷ xb) at.here (no_name x o)
        ∙ sym (of_after.none sa.place x' (more' ++ h.Close ∷ xa) at.its (no_name x' o'))
      where
        no_name : (x : Item) → is_other x ≡ true → is_named_item x ≡ false
        no_name (h.Open field head) e = refl
        no_name (h.Ident field sym ctxt role) e = absurd (false≢true e)
        no_name (h.Hole field) e = refl
        no_name h.Close e = refl

    -- what calls, and of what
    pub callee : (sb sa : Spot) (xb xa : List Item) {changes rest : List Change}
        {inside made : List Item} →
        Edits Anywhere changes inside made rest →
        Here sb sa (inside ++ h.Close ∷ xb) (made ++ h.Close ∷ xa) →
        (is_text (codes "assign") (property_of (node_at before sb.place))
        && test_before (sb.place + 1))
        ≡ (is_text (codes "assign") (property_of (node_at after sa.place))
        && test_after (sa.place + 1))
    callee sb sa xb xa edits at = by (begin edits so) at
      where
        neither : property_of (node_at before sb.place) ≡ None →
            property_of (node_at after sa.place) ≡ None →
            (is_text (codes "assign") (property_of (node_at before sb.place))
            && test_before (sb.place + 1))
            ≡ (is_text (codes "assign") (property_of (node_at after sa.place))
            && test_after (sa.place + 1))
        neither e e' =
            ap (λ t. is_text (codes "assign") t && test_before (sb.place + 1)) e
            ∙ sym (ap (λ t. is_text (codes "assign") t && test_after (sa.place + 1)) e')

        by : {rb ra : List Item} → Begin rb ra →
            Here sb sa (rb ++ h.Close ∷ xb) (ra ++ h.Close ∷ xa) →
            (is_text (codes "assign") (property_of (node_at before sb.place))
            && test_before (sb.place + 1))
            ≡ (is_text (codes "assign") (property_of (node_at after sa.place))
            && test_after (sa.place + 1))
        by empty at =
            neither (no-word before sb.place h.Close xb at.here refl)
            (no-word after sa.place h.Close xa at.its refl)
        by (named f f' x x' c c' role) at =
            neither (no-word before sb.place _ _ at.here refl)
            (no-word after sa.place _ _ at.its refl)
        by (other x x' {more = more} {more' = more'} o o') at =
            neither (no-word before sb.place x (more ++ h.Close ∷ xb) at.here
            (other-no_member x o))
            (no-word after sa.place x' (more' ++ h.Close ∷ xa) at.its (other-no_member x' o'))
        by (member f f' more more' {inside = inside} {made = made} {tail = tail} {tail' = tail'}
            edits e e') at =
            let one : tail ++ h.Close ∷ xb ≡ inside ++ h.Close ∷ (more ++ h.Close ∷ xb) =
            ap (λ (l : List Item). l ++ h.Close ∷ xb) e
            ∙ append_assoc inside (h.Close ∷ more) (h.Close ∷ xb) in
            let two : tail' ++ h.Close ∷ xa ≡ made ++ h.Close ∷ (more' ++ h.Close ∷ xa) =
            ap (λ (l : List Item). l ++ h.Close ∷ xa) e'
            ∙ append_assoc made (h.Close ∷ more') (h.Close ∷ xa) in
            let here : drop sb.place before ≡ h.Open f h.MemberExpr
            ∷ (inside ++ h.Close ∷ (more ++ h.Close ∷ xb)) = at.here
            ∙ ap (λ (l : List Item). h.Open f h.MemberExpr ∷ l) one in
            let its : drop sa.place after ≡ h.Open f' h.MemberExpr
            ∷ (made ++ h.Close ∷ (more' ++ h.Close ∷ xa)) = at.its
            ∙ ap (λ (l : List Item). h.Open f' h.MemberExpr ∷ l) two in
            let word : property_of (node_at before sb.place)
            ≡ property_of (node_at after sa.place) =
            ap property_of (node_at-is before sb.place f h.MemberExpr (whole-before edits)
            (more ++ h.Close ∷ xb) here)
            ∙ (word-moved f f' edits
            ∙ sym (ap property_of
            (node_at-is after sa.place f' h.MemberExpr (whole-after edits)
            (more' ++ h.Close ∷ xa) its))) in
            let deeper : Here (past sb (h.Open f h.MemberExpr)) (past sa (h.Open f' h.MemberExpr))
            (inside ++ h.Close ∷ (more ++ h.Close ∷ xb))
            (made ++ h.Close ∷ (more' ++ h.Close ∷ xa)) = record {
              here = drop-next sb.place before (h.Open f h.MemberExpr) _ here;
              its = drop-next sa.place after (h.Open f' h.MemberExpr) _ its;
              tests =
                  subst (λ (l : List Item). AllZip (λ (o p : Occurrence). test_before o.place
                  ≡ test_after p.place) (occurrences_from (past sb (h.Open f h.MemberExpr)) l)
                  (occurrences_from (past sa (h.Open f' h.MemberExpr))
                  (made ++ h.Close ∷ (more' ++ h.Close ∷ xa)))) one
                  (subst (λ (l : List Item). AllZip (λ (o p : Occurrence). test_before o.place
                  ≡ test_after p.place)
                  (occurrences_from (past sb (h.Open f h.MemberExpr)) (tail ++ h.Close ∷ xb))
                  (occurrences_from (past sa (h.Open f' h.MemberExpr)) l)) two at.tests);
            } in
            ap (λ t. is_text (codes "assign") t && test_before (sb.place + 1)) word
            ∙ ap (λ b. is_text (codes "assign") (property_of (node_at after sa.place)) && b)
            (first-tests (past sb (h.Open f h.MemberExpr)) (past sa (h.Open f' h.MemberExpr))
            (more ++ h.Close ∷ xb) (more' ++ h.Close ∷ xa) (begin edits so) deeper)
