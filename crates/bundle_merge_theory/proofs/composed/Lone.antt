-- Where no specifier ends in a lone name, none does with other names.
-- What a walk makes of an own statement is noted right, where its names denote right in the item by
-- itself.
use Rattle.std.proofs.Common.{◌≡◌, ℕ, ◌&&◌, Bool, true, false, not, List, [], ◌∷◌, ◌++◌, Option, Some, None, append_assoc, append-nil, sym, subst, map, slice_get}
use Rattle.std.specs.Prelude.{bytes_eq, codes, if◌then◌else◌}
use Rattle.std.proofs.lemmas.Bool.{and_parts, and_from}
use Rattle.bundle_syntax.specs.declared.piece.Role.{Role}
use Rattle.bundle_syntax.specs.Item as h
use Rattle.bundle_syntax.specs.Item.{Item}
use Rattle.bundle_syntax.specs.declared.piece.Role.TheVariants as r
use Rattle.bundle_rules.specs.Nodes.{Text}
use Rattle.bundle_rules.specs.Shape.{is_specifier}
use Rattle.bundle_rules.specs.Rebuilds.{Change, spells_out, plain_key, key_in_object}
use Rattle.bundle_rules.specs.Meaning.{Meant, OwnMeaning}
use Rattle.bundle_rules.specs.Idents.{Ident}
use Rattle.bundle_rules.specs.Statements.{Element, own_statements}
use Rattle.bundle_rules.specs.Program.{Program, tree_of}
use Rattle.bundle_rules.specs.Bundle as bundle
use Rattle.bundle_rules.specs.Bundle.{Hooks, Form}
use Rattle.bundle_tree_places.specs.Edits as c
use Rattle.bundle_tree_places.specs.Edits.{Around, Anywhere, InObject, InSpecifier, Edits, node, is_occurrence, next, renamed, in_its_place, binding, pattern_in_its_place}
use Rattle.bundle_merge_theory.specs.walked.Renaming.{ends_no_specifier, HasNoLoneName, ItemMeaning}
use Rattle.bundle_merge_theory.specs.noted.Marked.{Note}
use Rattle.bundle_merge_theory.specs.walked.Work.{Work}
use Rattle.bundle_merge_theory.specs.walked.Keeps.{meant_in}
use Rattle.bundle_merge_theory.specs.walked.Stated.{SameStated}
use Rattle.bundle_merge_theory.specs.composed.Noted.{AsWhole, IsNotedFor, as_whole, own}

-- ---- lone
abbrev Ends : List Bool → Bool → List Item → Type 0
Ends outer b items = ends_no_specifier outer b items ≡ true

-- what follows the one follows the other
abbrev Follows : List Bool → List Bool → List Item → List Item → Type 0
Follows outer other post its = (b : Bool) → Ends outer b post → Ends other b its

-- an end behind anything but a name asks less
weaker : (outer : List Bool) (post : List Item) → Ends outer true post → Ends outer false post
weaker outer [] e = e
weaker outer (h.Open field head ∷ post) e = e
weaker outer (h.Ident field x k role ∷ post) e = e
weaker outer (h.Hole field ∷ post) e = e
weaker [] (h.Close ∷ post) e = e
weaker (true ∷ outer) (h.Close ∷ post) e = absurd cc
weaker (false ∷ outer) (h.Close ∷ post) e = e

at-false : (outer : List Bool) (b : Bool) (post : List Item) → Ends outer b post →
    Ends outer false post
at-false outer true post e = weaker outer post e
at-false outer false post e = e

-- an end
close : (spec : Bool) (outer other : List Bool) (post its : List Item) →
    Follows outer other post its →
    Follows (spec ∷ outer) (spec ∷ other) (h.Close ∷ post) (h.Close ∷ its)
close spec outer other post its follows b e =
    let both = and_parts (not (spec && b)) (ends_no_specifier outer false post) e in
    and_from (not (spec && b)) (ends_no_specifier other false its) both.0 (follows false both.1)

-- a name
one-name : (change : Option Change) (field : ℕ) (x : Text) (k : ℕ) (role : Role) (outer : List Bool)
    (b : Bool) (its : List Item) → Ends outer (is_occurrence role) its →
    Ends outer b (renamed change field x k role ∷ its)
one-name None field x k role outer b its e = e
one-name (Some change) field x k role outer b its e = e

key-name : (computed : Bool) (change : Option Change) (x : Text) (k : ℕ) (role : Role)
    (outer : List Bool) (its : List Item) → Ends outer false its →
    Ends (false ∷ outer) false
    (((if computed then h.Open 0 h.ComputedPropName ∷ h.Open 0 (h.Str x None) ∷ h.Close ∷
    h.Close ∷ [] else plain_key x) ++ renamed change 1 x k role ∷ []) ++ h.Close ∷
    its)
key-name true change x k role outer its e =
    one-name change 1 x k role (false ∷ outer) false (h.Close ∷ its) e
key-name false change x k role outer its e =
    one-name change 1 x k role (false ∷ outer) false (h.Close ∷ its) e

object-name : (spelled : Bool) (change : Option Change) (field : ℕ) (x : Text) (k : ℕ) (role : Role)
    (outer : List Bool) (b : Bool) (its : List Item) → Ends outer (is_occurrence role) its →
    Ends outer b
    ((if spelled then node field h.KeyValueProp
    (key_in_object x ++ renamed change 1 x k role ∷ []) else renamed change field x k
    role ∷ []) ++ its)
object-name true change field x k role outer b its e =
    subst (λ l. Ends (false ∷ outer) false l)
    (sym (append_assoc (key_in_object x ++ renamed change 1 x k role ∷ []) (h.Close ∷ []) its))
    (key-name (bytes_eq x (codes "__proto__")) change x k role outer its
    (at-false outer (is_occurrence role) its e))
object-name false change field x k role outer b its e = one-name change field x k role outer b its e

specifier-name : (spelled : Bool) (change : Option Change) (field : ℕ) (x : Text) (k : ℕ)
    (role : Role) (outer : List Bool) (b : Bool) (its : List Item) →
    Ends outer (is_occurrence role) its →
    Ends outer b
    ((if spelled then renamed change field x k role ∷ h.Ident 1 x 0 r.Word ∷ [] else renamed
    change field x k role ∷ []) ++ its)
specifier-name true change field x k role outer b its e =
    one-name change field x k role outer b (h.Ident 1 x 0 r.Word ∷ its)
    (at-false outer (is_occurrence role) its e)
specifier-name false change field x k role outer b its e =
    one-name change field x k role outer b its e

name-place : (around : Around) (change : Option Change) (field : ℕ) (x : Text) (k : ℕ) (role : Role)
    (outer : List Bool) (b : Bool) (its : List Item) → Ends outer (is_occurrence role) its →
    Ends outer b (in_its_place around change field x k role ++ its)
name-place Anywhere change field x k role outer b its e =
    one-name change field x k role outer b its e
name-place InObject change field x k role outer b its e =
    object-name (spells_out change) change field x k role outer b its e
name-place InSpecifier change field x k role outer b its e =
    specifier-name (spells_out change) change field x k role outer b its e

-- a name that is a pattern
pattern-name : (change : Option Change) (field : ℕ) (x : Text) (k : ℕ) (role : Role)
    (outer : List Bool) (its : List Item) → Ends outer false its →
    Ends outer false (binding change field x k role ++ its)
pattern-name change field x k role outer its e =
    one-name change 0 x k role (false ∷ outer) false (h.Close ∷ its) e

-- a shorthand property, where what is made of its default ends so
pattern-place : (change : Option Change) (x : Text) (k : ℕ) (role : Role) (made : List Item)
    (outer : List Bool) (its : List Item) →
    ((deep : List Bool) (more : List Item) → ((d : Bool) → Ends outer false its → Ends deep d more)
    → Ends deep false (made ++ more)) →
    Ends (false ∷ outer) false (pattern_in_its_place change x k role made ++ h.Close ∷ its)
pattern-place change x k role [] outer its inner =
    pattern-name change 1 x k role (false ∷ outer) (h.Close ∷ its)
    (inner (false ∷ outer) (h.Close ∷ its) (λ d e. e))
pattern-place change x k role (first ∷ more) outer its inner =
    subst (Ends (false ∷ false ∷ outer) false)
    (sym
    (append_assoc (binding change 0 x k role ++ first ∷ more) (h.Close ∷ [])
    (h.Close ∷ its)))
    (subst (Ends (false ∷ false ∷ outer) false) (sym (append_assoc (binding change 0 x k role) (first ∷ more) (h.Close ∷ h.Close ∷ its)))
    (pattern-name change 0 x k role (false ∷ false ∷ outer) ((first ∷ more) ++ h.Close ∷ h.Close ∷ its) (inner (false ∷ false ∷ outer) (h.Close ∷ h.Close ∷ its) (λ d e. e))))

short-place : (spelled : Bool) (change : Option Change) (field : ℕ) (x : Text) (k : ℕ) (role : Role)
    (made : List Item) (outer : List Bool) (b : Bool) (its : List Item) →
    ((deep : List Bool) (more : List Item) → ((d : Bool) → Ends outer false its → Ends deep d more)
    → Ends deep false (made ++ more)) →
    Ends outer b
    ((if spelled then node field h.KeyValuePatProp
    (plain_key x ++ pattern_in_its_place change x k role made) else node field
    h.AssignPatProp (binding change 0 x k role ++ made)) ++ its)
short-place true change field x k role made outer b its inner =
    subst (Ends (false ∷ outer) false)
    (sym
    (append_assoc (plain_key x ++ pattern_in_its_place change x k role made) (h.Close ∷ [])
    its))
    (pattern-place change x k role made outer its inner)
short-place false change field x k role made outer b its inner =
    subst (Ends (false ∷ outer) false)
    (sym (append_assoc (binding change 0 x k role ++ made) (h.Close ∷ []) its))
    (subst (Ends (false ∷ outer) false) (sym (append_assoc (binding change 0 x k role) made (h.Close ∷ its)))
    (pattern-name change 0 x k role (false ∷ outer) (made ++ h.Close ∷ its) (inner (false ∷ outer) (h.Close ∷ its) (λ d e. e))))

-- with other identifiers a list ends in a lone name only where it did
ends-edited : {around : Around} {changes rest : List Change} {before made : List Item} →
    Edits around changes before made rest →
    (outer other : List Bool) (b : Bool) (post its : List Item) → Follows outer other post its →
    Ends outer b (before ++ post) → Ends other b (made ++ its)
ends-edited c.Nothing outer other b post its follows e = follows b e
ends-edited
    (c.Joined {first = first} {made_first = made_first} {second = second}
    {made_second = made_second} one two) outer other b post its follows e =
    subst (Ends other b) (sym (append_assoc made_first made_second its))
    (ends-edited one outer other b (second ++ post) (made_second ++ its)
    (λ k f. ends-edited two outer other k post its follows f)
    (subst (Ends outer b) (append_assoc first second post) e))
ends-edited (c.Hole field) outer other b post its follows e = follows false e
ends-edited (c.Word field x k role plain) outer other b post its follows e =
    follows (is_occurrence role) e
ends-edited (c.Name around {changes = changes} field x k role occurs) outer other b post its follows e = name-place around (next changes) field x k role other b its (follows (is_occurrence role) e)
ends-edited (c.Inside field head {inside = inside} {made = made} plain one) outer other b post its
    follows e =
    subst (Ends (is_specifier head ∷ other) false) (sym (append_assoc made (h.Close ∷ []) its))
    (ends-edited one (is_specifier head ∷ outer) (is_specifier head ∷ other) false (h.Close ∷ post) (h.Close ∷ its) (close (is_specifier head) outer other post its follows)
    (subst (Ends (is_specifier head ∷ outer) false) (append_assoc inside (h.Close ∷ []) post) e))
ends-edited
    (c.Shorthand {changes = changes} field x k role {default = default} {made = made} occurs one)
    outer other b post its follows e =
    let whole : Ends (false ∷ outer) false
    ((binding None 0 x k role ++ default) ++ h.Close ∷ post) =
    subst (Ends (false ∷ outer) false)
    (append_assoc (binding None 0 x k role ++ default) (h.Close ∷ []) post) e in
    let behind : Ends (false ∷ outer) false (default ++ h.Close ∷ post) =
    subst (Ends (false ∷ outer) false)
    (append_assoc (binding None 0 x k role) default (h.Close ∷ post)) whole in
    short-place (spells_out (next changes)) (next changes) field x k role made other b its
    (λ deep more f. ends-edited one (false ∷ outer) deep false (h.Close ∷ post) more
    (λ d g. f d (follows false g)) behind)

pub lone-edited : {changes rest : List Change} {before made : List Item} →
    Edits Anywhere changes before made rest → HasNoLoneName before → HasNoLoneName made
lone-edited {before = before} {made = made} edits lone =
    subst HasNoLoneName (append-nil made)
    (ends-edited edits [] [] false [] [] (λ b e. e)
    (subst HasNoLoneName (sym (append-nil before)) lone))

-- ---- own

-- what is told of a statement
abbrev pub told_of : {work : Work} {meta : Option Meant} {notes : List Note} {name : Ident}
    {default : Meant} {source made : List Item} →
    SameStated work meta notes name default source made → ItemMeaning
told_of same = (map (λ pair. pair.1) same.front ++ map meant_in same.entries, same.marks)

-- what a walk makes of an own statement stands for its cause
pub own-noted : (p : Program) (hooks : Hooks) (form : Form) (m k : ℕ) {work : Work}
    {meta : Option Meant} {notes : List Note} {name : Ident} {default : Meant}
    {source made : List Item} (same : SameStated work meta notes name default source made)
    (statement : List Element) → slice_get (own_statements (tree_of p m)) k ≡ Some statement →
    OwnMeaning p m statement same.marks →
    IsNotedFor p hooks form made (AsWhole (told_of same)) (bundle.Own m k)
own-noted p hooks form m k same statement at means = as_whole same.result (own statement at means)
