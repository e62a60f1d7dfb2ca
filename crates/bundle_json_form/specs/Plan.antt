-- What stands in the object of a node, member by member in the order of their keys.
use Rattle.std.specs.Prelude.{◌≡◌, ◌<◌, ◌≤◌, ℕ, Bool, List, [], ◌∷◌, ◌++◌, map, take, drop, set, length, Some, None, codes}
use Rattle.std.specs.Ordering.{nat_cmp, match_ordering}
use Rattle.std.specs.Cmp.Lexicographic.{slice_cmp}
use Rattle.bundle_syntax.specs.Item.{Head}
use Rattle.bundle_json_form.specs.declared.layout.Shape.{Shape}
use Rattle.bundle_json_form.specs.declared.plan.Content as r_content
use Rattle.bundle_json_form.specs.declared.plan.Content.TheVariants as c
use Rattle.bundle_json_form.specs.declared.plan.Member as r_member
use Rattle.bundle_json_form.specs.Form.{Field, node_fields, name, Scalar, text, optional_text, truth, given, scalars}

-- what stands under a key: nothing, a truth value, a text, or the nodes in the field of a number
pub data Content : Type 0 where
  nothing : Content
  a_truth : Bool → Content
  a_text : List ℕ → Content
  nodes : Shape → ℕ → Content

abbrev pub content_of : r_content.Content → Content
content_of c.Null = nothing
content_of (c.Truth it) = a_truth it
content_of (c.Text it) = a_text it.now
content_of (c.Nodes shape number) = nodes shape number

-- a key, and what stands under it
abbrev pub Member : Type 0
Member = List ℕ × Content

abbrev pub member_of : r_member.Member → Member
member_of it = (it.key.now, content_of it.content)

abbrev pub planned : List r_member.Member → List Member
planned = map member_of

-- the members, with this one in the order of the keys
abbrev pub put_member : List ℕ → Content → List Member → List Member
put_member key it [] = (key, it) ∷ []
put_member key it (first ∷ more) =
    match_ordering (slice_cmp nat_cmp key first.0) ((key, it) ∷ first ∷ more)
    ((first.0, it) ∷ more) (first ∷ put_member key it more)

abbrev pub put_scalar : Scalar → List Member → List Member
put_scalar (text key it) members = put_member key (a_text it) members
put_scalar (optional_text key None) members = put_member key nothing members
put_scalar (optional_text key (Some it)) members = put_member key (a_text it) members
put_scalar (truth key it) members = put_member key (a_truth it) members
put_scalar (given key it) members = members

abbrev pub put_scalars : List Scalar → List Member → List Member
put_scalars [] members = members
put_scalars (it ∷ more) members = put_scalars more (put_scalar it members)

abbrev pub put_fields : List Field → List Member → List Member
put_fields [] members = members
put_fields (it ∷ more) members =
    put_fields more (put_member it.key (nodes it.shape it.number) members)

-- the members of the object of a node
abbrev pub plan : Head → List Member
plan head =
    put_fields (node_fields head)
    (put_scalars (scalars head) (put_member (codes "type") (a_text (name head)) []))

-- at this place stands the member of the key
pub record IsMemberAt (key : List ℕ) (members : List Member) (place : ℕ) : Type 0 where
  pub within : place < length members
  pub put_in : (it : Content) →
      put_member key it members ≡ set members place (key, it)

-- no member is of the key, and at this place one is to be put in
pub record BelongsAt (key : List ℕ) (members : List Member) (place : ℕ) : Type 0 where
  pub within : place ≤ length members
  pub put_in : (it : Content) →
      put_member key it members ≡ take place members ++ (key, it) ∷ drop place members
