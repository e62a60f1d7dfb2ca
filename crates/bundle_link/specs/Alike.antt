-- Programs that are one but for the numbers of their modules.
use Rattle.std.specs.Prelude.{◌≡◌, ℕ, List, Some, Contains, slice_get}
use Rattle.bundle_rules.specs.Nodes.{Text}
use Rattle.bundle_rules.specs.Judging.{requests_in}
use Rattle.bundle_rules.specs.Program.{Program, tree_of}

-- where R says which module of the second program a module of the first is: the settings, the
-- entries, the trees and where the requests of each lead are the same
pub record IsAlike (p q : Program) (R : ℕ → ℕ → Type 0) : Type 0 where
  pub one : (a b c : ℕ) → R a b → R a c → b ≡ c
  pub other : (a b c : ℕ) → R b a → R c a → b ≡ c
  pub require : p.settings.require ≡ q.settings.require
  pub external : p.settings.external ≡ q.settings.external
  pub iife : p.settings.iife ≡ q.settings.iife
  pub in_standard_order : p.settings.in_standard_order ≡ q.settings.in_standard_order
  pub entry : R p.entry q.entry
  pub tree : (a b : ℕ) → R a b → tree_of p a ≡ tree_of q b
  pub leads : (a b c : ℕ) (s : Text) →
      R a b →
      Contains (requests_in p.settings (tree_of p a)) s →
      p.leads a s ≡ Some c →
      (d : ℕ) × R c d × (q.leads b s ≡ Some d)
  pub back : (a b d : ℕ) (s : Text) →
      R a b →
      Contains (requests_in p.settings (tree_of p a)) s →
      q.leads b s ≡ Some d →
      (c : ℕ) × R c d × (p.leads a s ≡ Some c)

-- the module with this number stands at this place
abbrev pub IsModuleAt : List ℕ → ℕ → ℕ → Type 0
IsModuleAt ids m place = slice_get ids place ≡ Some m
