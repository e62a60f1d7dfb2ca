-- What is found by places, in the words of the definitions.
use Rattle.std.specs.Prelude.{ℕ, Option, Some, None, List, option_map, slice_get}
use Rattle.bundle_rules.specs.Nodes.{Text}
use Rattle.bundle_rules.specs.Program.{Program}
use Rattle.bundle_rules.specs.Linking as l
use Rattle.bundle_rules.specs.Linking.{Linked, IsMissing}
use Rattle.bundle_rules.specs.Tables.{AreTwo}
use Rattle.bundle_link_tables.specs.TablesOf.{taken_of}
use Rattle.bundle_link_index.specs.declared.answer.Candidates.{Candidates as Found}
use Rattle.bundle_link_index.specs.declared.answer.Candidates.TheVariants as f
use Rattle.bundle_link_index.specs.declared.target.TargetRef.{TargetRef}
use Rattle.bundle_link_index.specs.declared.target.TargetRef.TheVariants as t
use Rattle.bundle_link_index.specs.declared.own.Asked.{Asked}
use Rattle.bundle_link_index.specs.declared.own.GivenTarget.{GivenTarget}
use Rattle.bundle_link_index.specs.declared.own.OwnTarget.{OwnTarget}
use Rattle.bundle_link_index.specs.declared.own.OwnTarget.TheVariants as o
use Rattle.bundle_link_index.specs.declared.index.Answer.{Answer}
use Rattle.bundle_link_index.specs.declared.index.Answer.TheVariants as a
use Rattle.bundle_link_index.specs.Linked.{Value}
use Rattle.bundle_link_index.specs.Said.{Said, It, On, Naught}

-- a target
abbrev pub target_of : TargetRef → l.Target
target_of (t.Declared m x) = l.Declared m x.now
target_of (t.Namespace m) = l.Namespace m
target_of (t.External specifier taken) = l.External specifier.now (taken_of taken)
target_of (t.CommonJs taker m taken) = l.CommonJs taker m (taken_of taken)

-- a name of a module, as an origin
abbrev pub origin_of : Asked → l.Origin
origin_of asked = record { which = asked.which; local = asked.name.now }

-- a target with its origin
abbrev pub value_of : GivenTarget → Value
value_of given = (target_of given.target, option_map origin_of given.origin)

-- what an own entry says
abbrev pub own_says : OwnTarget → Said
own_says (o.Gives given) = It (target_of given.target) (option_map origin_of given.origin)
own_says (o.Leads asked) = On asked.which asked.name.now
own_says o.Nothing = Naught

-- what is given for a name: nothing, one value, or two of more
pub data GivenFor : Type 0 where
  Nought : GivenFor
  Single : Value → GivenFor
  Double : Value → Value → GivenFor

-- an answer
abbrev pub answer_says : Answer → GivenFor
answer_says a.None = Nought
answer_says (a.One given) = Single (value_of given)
answer_says (a.Two first second) = Double (value_of first) (value_of second)

-- the target to which the name is linked, if it is linked
abbrev pub linked_of : GivenFor → Option l.Target
linked_of Nought = None
linked_of (Single value) = Some value.0
linked_of (Double first second) = None

-- one value, if it is there
abbrev pub single : Option Value → GivenFor
single None = Nought
single (Some value) = Single value

-- two, if both are there
abbrev pub double : Option Value → Option Value → GivenFor
double (Some first) (Some second) = Double first second
double _ _ = Nought

-- an answer by numbers, where these are the values
abbrev pub answer_of_values : List Value → Found → GivenFor
answer_of_values values f.Missing = Nought
answer_of_values values (f.One v) = single (slice_get values v)
answer_of_values values (f.Two a b) = double (slice_get values a) (slice_get values b)

-- the answer is right in the program: the name is linked to the one target; two count as two; or
-- none is given
abbrev pub TellsAnswer : Program → ℕ → Text → GivenFor → Type 0
TellsAnswer p m x Nought = IsMissing p m x
TellsAnswer p m x (Single value) = Linked p m x value.0
TellsAnswer p m x (Double first second) = AreTwo p m x first.0 second.0
