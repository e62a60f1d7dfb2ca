-- The salt of a list: what is hashed of it, and the hasher that begins with the digest.
use Rattle.std.specs.Prelude.{ℕ, List, [], ◌∷◌, ◌++◌}
use Rattle.std.specs.List.{flat_map}
use Rattle.std.specs.Hash.DefaultHasher as sip
use Rattle.bundle_syntax.specs.Item.{Item, Ident}
use Rattle.bundle_scope_denote.specs.declared.salt.Salt.{Salt}

-- the symbol of an identifier, and the byte 255, which stands in no text
abbrev pub salt_bytes : Item → List ℕ
salt_bytes (Ident field sym ctxt role) = sym ++ 255 ∷ []
salt_bytes item = []

-- the symbols of all identifiers, so that each list of symbols has a message of its own
abbrev pub message_of : List Item → List ℕ
message_of items = flat_map salt_bytes items

-- the salt whose hashers begin with a digest
abbrev pub salted : List ℕ → Salt
salted digest = record { begun = sip.write sip.initial digest }

-- the salt whose hashers begin with nothing
abbrev pub unsalted : Salt
unsalted = record { begun = sip.initial }

-- a list of fewer pieces has that one
abbrev pub few : ℕ
few = 256
