-- Tokens, one behind the other.
use Rattle.std.proofs.Common.{◌≡◌, List, [], ◌∷◌, ◌++◌, refl, ap, sym, ◌∙◌, append_assoc, append-nil}
use Rattle.json.specs.Token.{Token}
use Rattle.json.specs.Written.{Written}
use Rattle.gutsirava_maps.specs.Text.{Tells}

-- no token
pub tells_none : (old : Written) → Tells old old []
tells_none old = record { before = refl; told = sym (append-nil old.tokens) }

-- one token
pub tells_one : (old new : Written) (token : Token) → new.before ≡ old.before → new.tokens ≡ old.tokens ++ token ∷ []
    → Tells old new (token ∷ [])
tells_one old new token before told = record { before = before; told = told }

-- tokens behind tokens
pub tells_then : (old mid new : Written) (some more : List Token) → Tells old mid some → Tells mid new more
    → Tells old new (some ++ more)
tells_then old mid new some more first second = record {
  before = second.before ∙ first.before;
  told = second.told ∙ ap (λ t. t ++ more) first.told ∙ append_assoc old.tokens some more;
}

-- tokens behind one
pub tells_more : (old mid new : Written) (token : Token) (more : List Token) → mid.before ≡ old.before
    → mid.tokens ≡ old.tokens ++ token ∷ [] → Tells mid new more → Tells old new (token ∷ more)
tells_more old mid new token more before told rest =
    tells_then old mid new (token ∷ []) more (tells_one old mid token before told) rest
