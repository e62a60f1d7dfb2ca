-- What a CommonJS module passes on.
use Rattle.std.specs.Prelude.{◌≡◌, ℕ, List, IsSomeAnd, slice_get}
use Rattle.gutsirava_sources.specs.declared.outline.RequestForm.TheVariants.{Require}
use Rattle.gutsirava_sources.specs.declared.outline.SourceRequest.{SourceRequest}

-- a number is that of a request by `require`
abbrev pub IsRequired : List SourceRequest → ℕ → Type 0
IsRequired requests number =
    IsSomeAnd (slice_get requests number) (λ request. request.asking ≡ Require)
