-- What a walk makes of a part of a tree has the same marks: what is said of it.
use Rattle.std.specs.Prelude.{◌≡◌, List, [], ◌∷◌, ◌++◌, Option, Some, None, map, ⊤}
use Rattle.std.specs.List.{AllZip}
use Rattle.bundle_syntax.specs.Item.{Item}
use Rattle.bundle_rules.specs.Idents.{Ident}
use Rattle.bundle_rules.specs.Meaning.{Meant, Mark}
use Rattle.bundle_tree_places.specs.Edits.{Around}
use Rattle.bundle_merge_theory.specs.walked.Names.{idents_among}
use Rattle.bundle_tree_rebuild.specs.Work.{Step, Work}
use Rattle.bundle_merge_theory.specs.noted.Marked.{Note, Marked}
use Rattle.bundle_tree_rebuild.specs.declared.rewrite.Whole.TheVariants.{Alone}

-- Steps and notes.

-- a step and the note of the same occurrence stand for as much of what is around it
abbrev pub SameWhole : Step → Note → Type 0
SameWhole step note = step.whole ≡ note.whole

-- `import.meta` gets a name exactly where it means something
abbrev pub AgreeOnMeta : Option Ident → Option Meant → Type 0
AgreeOnMeta None None = ⊤
AgreeOnMeta (Some ident) (Some meant) = ⊤
AgreeOnMeta _ _ = ⊥

-- the steps and the notes of the same occurrences
abbrev pub Agree : List Step → List Note → Type 0
Agree steps notes = AllZip SameWhole steps notes

-- What is made.

-- why an identifier stands in what is made: by the step of an occurrence, which has a note; or in
-- the place of `import.meta`
pub data MeantIdent : Type 0 where
  ByStep : Step → Note → MeantIdent
  ByMeta : Ident → Meant → MeantIdent

-- the identifier, and what it means
abbrev pub meant_ident : MeantIdent → Ident
meant_ident (ByStep step note) = step.ident
meant_ident (ByMeta ident meant) = ident

abbrev pub meant_in : MeantIdent → Meant
meant_in (ByStep step note) = note.meant
meant_in (ByMeta ident meant) = meant

-- the steps and the notes among the entries, in their order
abbrev pub steps_in : List MeantIdent → List Step
steps_in [] = []
steps_in (ByStep step note ∷ rest) = step ∷ steps_in rest
steps_in (ByMeta ident meant ∷ rest) = steps_in rest

abbrev pub notes_in : List MeantIdent → List Note
notes_in [] = []
notes_in (ByStep step note ∷ rest) = note ∷ notes_in rest
notes_in (ByMeta ident meant ∷ rest) = notes_in rest

-- each entry in the place of `import.meta` is what that becomes, and means
abbrev pub AreOfMeta : Option Ident → Option Meant → List MeantIdent → Type 0
AreOfMeta meta means [] = ⊤
AreOfMeta meta means (ByStep step note ∷ rest) = AreOfMeta meta means rest
AreOfMeta meta means (ByMeta ident meant ∷ rest) =
    (meta ≡ Some ident) × (means ≡ Some meant) × AreOfMeta meta means rest

-- notes of names that stand for themselves alone
abbrev pub alone_note : Meant → Note
alone_note meant = record { meant = meant; whole = Alone }

abbrev pub notes_alone : List Meant → List Note
notes_alone meants = map alone_note meants

-- What stands here and what is made of it have the same marks: by the notes of the occurrences,
-- and by what the names that stand in what is made mean, each by itself.
pub record KeepsMeaning (around : Around) (work : Work) (meta : Option Meant) (notes : List Note)
    (before made : List Item) (rest : Work) : Type 0 where
  pub marks : List Mark
  pub left : List Note
  pub entries : List MeantIdent
  pub source : Marked meta around notes before marks left
  pub result : (more : List Meant) →
      Marked None around (notes_alone (map meant_in entries ++ more)) made marks (notes_alone more)
  -- the identifiers in what is made, in their order
  pub names : idents_among made ≡ map meant_ident entries
  -- their steps and notes, in their order, and what is left
  pub steps_are : work.steps ≡ steps_in entries ++ rest.steps
  pub notes_are : notes ≡ notes_in entries ++ left
  pub of_meta : AreOfMeta work.meta meta entries
  pub agree : Agree rest.steps left
  pub same_meta : rest.meta ≡ work.meta

-- All of a part and what is made of it have the same marks, where each step and note belongs to
-- one of its occurrences.
pub record Same (around : Around) (work : Work) (meta : Option Meant) (notes : List Note)
    (before made : List Item) : Type 0 where
  pub marks : List Mark
  pub entries : List MeantIdent
  pub source : Marked meta around notes before marks []
  pub result : Marked None around (notes_alone (map meant_in entries)) made marks []
  pub names : idents_among made ≡ map meant_ident entries
  pub steps_are : work.steps ≡ steps_in entries
  pub notes_are : notes ≡ notes_in entries
  pub of_meta : AreOfMeta work.meta meta entries
