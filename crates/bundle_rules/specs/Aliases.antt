-- Aliases: `a` is an alias of `b` where the linker wrote `const a = b;`. The end of a chain of them
-- is what is none itself.
use Rattle.std.specs.Prelude.{◌≡◌, ℕ, IsTrue, List, [], ◌∷◌, Contains}
use Rattle.bundle_syntax.specs.declared.kind.ExportMetadata.{ExportMetadata}
use Rattle.bundle_syntax.specs.declared.kind.VarDeclKind.TheVariants.{Const}
use Rattle.bundle_syntax.specs.declared.piece.Role.TheVariants.{Binding, Reference}
use Rattle.bundle_syntax.specs.Item as h
use Rattle.bundle_syntax.specs.Item.{Item}
use Rattle.bundle_rules.specs.Idents.{Ident}
use Rattle.bundle_rules.specs.Renamed.{IsRenamedBy}
use Rattle.bundle_rules.specs.Parts.{Owned, Parts, in_order, HoldsOfParts}

-- `const a = b;`, with this noted
abbrev pub alias_item : ExportMetadata → Ident → Ident → List Item
alias_item meta a b =
    h.Open 0 (h.VarDecl Const meta) ∷ h.Open 1 h.VarDeclarator ∷ h.Open 0 h.BindingIdent
    ∷ h.Ident 0 a.0 a.1 Binding ∷ h.Close
    ∷ h.Ident 1 b.0 b.1 Reference ∷ h.Close ∷ h.Close ∷ []

-- the item makes a an alias of b: it is `const a = b;`, with one declarator of two identifiers, and
-- the linker noted it as its own
pub record MakesAlias (item : List Item) (a b : Ident) : Type 0 where
  pub meta : ExportMetadata
  pub is : item ≡ alias_item meta a b
  pub noted : IsTrue meta.injected

-- some item makes a an alias of b
pub record IsAlias (parts : Parts) (a b : Ident) : Type 0 where
  pub one : Owned
  pub there : Contains (in_order parts) one
  pub makes : MakesAlias one.1 a b

-- `ChainEnd Alias a b`: the chain of aliases from a ends in b
pub data ChainEnd (Alias : Ident → Ident → Type 0) : Ident → Ident → Type 0 where
  here : {a : Ident} → ((b : Ident) → Alias a b → ⊥) → ChainEnd Alias a a
  further : {a b c : Ident} → Alias a b → ChainEnd Alias b c → ChainEnd Alias a c

-- a chain of at least one alias leads from a to b
pub data Chain (Alias : Ident → Ident → Type 0) : Ident → Ident → Type 0 where
  one : {a b : Ident} → Alias a b → Chain Alias a b
  more : {a b c : Ident} → Alias a b → Chain Alias b c → Chain Alias a c

-- some chain of aliases leads back to where it began
abbrev pub HasCycle : (Ident → Ident → Type 0) → Type 0
HasCycle Alias = (a : Ident) × Chain Alias a a

-- an item after inlining: each identifier is the end of its chain
abbrev pub IsInlined : (Ident → Ident → Type 0) → List Item → List Item → Type 0
IsInlined Alias before after = IsRenamedBy (ChainEnd Alias) before after

-- `AreInlined Alias old new`: an item that makes an alias goes, and any other stays with its
-- module, inlined
pub data AreInlined (Alias : Ident → Ident → Type 0) : List Owned → List Owned → Type 0 where
  over : AreInlined Alias [] []
  goes : {m : ℕ} {item : List Item} {a b : Ident} {old new : List Owned} →
      MakesAlias item a b →
      AreInlined Alias old new →
      AreInlined Alias ((m, item) ∷ old) new
  stays : {m : ℕ} {before after : List Item} {old new : List Owned} →
      ((a b : Ident) → MakesAlias before a b → ⊥) →
      IsInlined Alias before after →
      AreInlined Alias old new →
      AreInlined Alias ((m, before) ∷ old) ((m, after) ∷ new)

-- all aliases are inlined and taken out, in each part. The caller sees to it that no identifier is
-- made an alias twice, and where aliases form a cycle there is no such answer
abbrev pub Inlines : Parts → Parts → Type 0
Inlines before after = HoldsOfParts (AreInlined (IsAlias before)) before after
