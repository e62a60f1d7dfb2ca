-- Marks that are told one after the other.
use Rattle.std.proofs.Common.{◌≡◌, ◌≢◌, ℕ, zero, suc, ◌≤◌, List, [], ◌∷◌, ◌++◌, String, Option, Some, None, IsSomeAnd, slice_get, string_bytes, refl, ap, sym, ◌∙◌, subst, append_assoc, arith}
use Rattle.std.specs.declared.alloc.Global.{Global}
use Rattle.gutsirava_traces.specs.declared.maker.MapMaker.{MapMaker}
use Rattle.gutsirava_traces.specs.declared.maker.PrintedList.{PrintedList}
use Rattle.gutsirava_traces.specs.declared.mark.MapMark.{MapMark}
use Rattle.gutsirava_traces.specs.declared.source.SourceFile.{SourceFile}
use Rattle.gutsirava_maps.specs.declared.mappings.MapOrigin.{MapOrigin}
use Rattle.gutsirava_traces.specs.Traces.{place_of}
use Rattle.gutsirava_traces.specs.declared.trace.TheConstants.{NOWHERE}
use Rattle.gutsirava_traces.specs.declared.trace.OwnBegin.{OwnBegin}
use Rattle.gutsirava_traces.specs.declared.trace.OwnForm.{OwnForm}
use Rattle.gutsirava_traces.specs.declared.trace.OwnForm.TheVariants.{Same, Constant, Declaration, Gone}
use Rattle.gutsirava_traces.specs.Told.{first_of, known, offset_of, place_within, BeginsTold, IsMarkOf, IsNameAt, IsOneTold, IsTold, Known, StandsAt, Tells, TellsFrom, TellsParts, Told}
use Rattle.gutsirava_traces.specs.Told.Told.{Nothing, More}
use Rattle.gutsirava_traces.specs.Told.TellsParts.{NoPart, Part}

-- marks behind marks
pub told_then : (list : PrintedList) (source : Known) (a b : MapMaker) (first own to from first' own' to' from' : ℕ) (c : MapMaker)
    → Told list source a first own to from b → to ≤ first' → from ≤ own' → Told list source b first' own' to' from' c
    → (t : ℕ) × (f : ℕ) × (t ≤ to') × (f ≤ from') × Told list source a first own t f c
told_then list source a b first own to from first' own' to' from' c before low own_low Nothing = (to, from, low, own_low, before)
told_then list source a b first own to from first' own' to' from' c before low own_low (More mid new mark t f at its more le own_le step is) =
    let so_far = told_then list source a b first own to from first' own' t f mid before low own_low more in
    (at, its, omega arith, omega arith, More mid new mark so_far.0 so_far.1 at its so_far.4 (omega (arith, so_far.2, le)) (omega (arith, so_far.3, own_le)) step is)

-- nothing is told
pub tells_none : (list : PrintedList) (first last own own_last : ℕ) (source : SourceFile) (maker : MapMaker)
    → first ≤ last → own ≤ own_last
    → Tells list (record { first = first; last = last; own = own; own_last = own_last }) source source maker maker
tells_none list first last own own_last source maker high own_high = record {
  same = refl;
  to = first;
  from = own;
  ends = high;
  own_ends = own_high;
  told = Nothing;
}

-- one mark is told
pub tells_one : (list : PrintedList) (at own : ℕ) (source new_source : SourceFile) (old new : MapMaker) (mark : MapMark)
    → known new_source ≡ known source → IsTold old new mark → IsMarkOf list (known source) new.names.names.items at own mark
    → Tells list (record { first = at; last = at; own = own; own_last = own }) source new_source old new
tells_one list at own source new_source old new mark same step is = record {
  same = same;
  to = at;
  from = own;
  ends = omega arith;
  own_ends = omega arith;
  told = More old new mark at own at own Nothing (omega arith) (omega arith) step is;
}

-- marks behind marks
pub tells_then : (list : PrintedList) (first last own own_last first' last' own' own_last' : ℕ) (s0 s1 s2 : SourceFile)
    (m0 m1 m2 : MapMaker)
    → Tells list (record { first = first; last = last; own = own; own_last = own_last }) s0 s1 m0 m1
    → Tells list (record { first = first'; last = last'; own = own'; own_last = own_last' }) s1 s2 m1 m2
    → last ≤ first' → own_last ≤ own'
    → Tells list (record { first = first; last = last'; own = own; own_last = own_last' }) s0 s2 m0 m2
tells_then list first last own own_last first' last' own' own_last' s0 s1 s2 m0 m1 m2 one other low own_low =
    let P : Known → Type 0 = λ it. Told list it m1 first' own' other.to other.from m2 in
    let all = told_then list (known s0) m0 m1 first own one.to one.from first' own' other.to other.from m2 one.told
    (omega (arith, one.ends, low)) (omega (arith, one.own_ends, own_low)) (subst P one.same other.told) in
    record {
      same = other.same ∙ one.same;
      to = all.0;
      from = all.1;
      ends = omega (arith, all.2, other.ends);
      own_ends = omega (arith, all.3, other.own_ends);
      told = all.4;
    }

-- marks of a stretch are some of a wider one
pub tells_wider : (list : PrintedList) (first last own own_last first' last' own' own_last' : ℕ) (source new_source : SourceFile)
    (old new : MapMaker)
    → Tells list (record { first = first'; last = last'; own = own'; own_last = own_last' }) source new_source old new
    → first ≤ first' → last' ≤ last → own ≤ own' → own_last' ≤ own_last
    → Tells list (record { first = first; last = last; own = own; own_last = own_last }) source new_source old new
tells_wider list first last own own_last first' last' own' own_last' source new_source old new tells low high own_low own_high =
    let all = tells_then list first first' own own' first' last' own' own_last' source source new_source old old new
    (tells_none list first first' own own' source old low own_low) tells (omega arith) (omega arith) in
    record {
      same = all.same;
      to = all.to;
      from = all.from;
      ends = omega (arith, all.ends, high);
      own_ends = omega (arith, all.own_ends, own_high);
      told = all.told;
    }

-- a mark is told behind a name that was put down
pub told_named : (old mid new : MapMaker) (mark : MapMark) → mid ≡ record old { names = mid.names }
    → ((more : List (String Global)) × (mid.names.names.items ≡ old.names.names.items ++ more)) → IsTold mid new mark
    → IsTold old new mark
told_named old mid new mark same kept told =
    let P : MapMaker → Type 0 = λ it. IsTold it new mark in
    let here : IsTold (record old { names = mid.names }) new mark = subst P same told in
    record {
      bundle = record {
        base = here.bundle.base;
        text = here.bundle.text;
        more = kept.0 ++ here.bundle.more;
        names = here.bundle.names ∙ ap (λ names. names ++ here.bundle.more) kept.1
            ∙ append_assoc old.names.names.items kept.0 here.bundle.more;
      };
      waits = here.waits;
      instead = here.instead;
      behind = here.behind;
    }

-- what is known of a place of a list stays where the list grows
some_stays : {A : Type 0} (P : A → Type 0) (xs more : List A) (at : ℕ) → IsSomeAnd (slice_get xs at) P
    → IsSomeAnd (slice_get (xs ++ more) at) P
some_stays P [] more at is = absurd is
some_stays P (x ∷ xs) more zero is = is
some_stays P (x ∷ xs) more (suc at) is = some_stays P xs more at is

-- a name keeps its number where more names are put down
pub name_stays : (text : List ℕ) (at : ℕ) (names more : List (String Global)) (it : Option ℕ) → IsNameAt text at names it
    → IsNameAt text at (names ++ more) it
name_stays text at names more None is = is
name_stays text at names more (Some name) is = some_stays (λ it. StandsAt text at (string_bytes it)) names more name is

-- a piece that stands for nothing in a source is told of
pub other_tells : (list : PrintedList) (first last own at : ℕ) (source : SourceFile) (old new : MapMaker) → first ≤ at → at ≤ last
    → IsTold old new (record { offset = offset_of list at; origin = None })
    → TellsFrom list first last own source source old new
other_tells list first last own at source old new low high told = record {
  own_last = own;
  tells = tells_wider list first last own own at at own own source source old new
      (tells_one list at own source source old new _ refl told (record { offset = refl; origin = tt }))
      low high (omega arith) (omega arith);
}

-- what is told of a walk that begins here
pub walk_began : (list other : PrintedList) (first first' last own own' : ℕ) (source new_source : SourceFile) (old new : MapMaker)
    → other ≡ list → first ≤ first' → own ≤ own' → TellsFrom other first' last own' source new_source old new
    → TellsFrom list first last own source new_source old new
walk_began list other first first' last own own' source new_source old new same begin low told =
    let P : PrintedList → Type 0 = λ it. Tells it (record { first = first'; last = last; own = own'; own_last = told.own_last }) source new_source old new in
    record {
      own_last = told.own_last;
      tells = tells_wider list first last own told.own_last first' last own' told.own_last source new_source old new
          (subst P same told.tells) begin (omega arith) low (omega arith);
    }

-- parts behind parts
pub parts_then : (list : PrintedList) (first mid : ℕ) (s0 s1 : SourceFile) (m0 m1 : MapMaker) (last : ℕ) (s2 : SourceFile)
    (m2 : MapMaker) → TellsParts list first s0 m0 mid s1 m1 → TellsParts list mid s1 m1 last s2 m2
    → TellsParts list first s0 m0 last s2 m2
parts_then list first mid s0 s1 m0 m1 last s2 m2 one NoPart = one
parts_then list first mid s0 s1 m0 m1 last s2 m2 one (Part begin end own between new_source maker new before told) =
    Part begin end own between new_source maker new (parts_then list first mid s0 s1 m0 m1 begin between maker one before) told

-- one mark is what is told of a piece
pub one_tells : (list : PrintedList) (at own : ℕ) (source new_source : SourceFile) (old new : MapMaker)
    → IsOneTold list at own source new_source old new
    → Tells list (record { first = at; last = at; own = own; own_last = own }) source new_source old new
one_tells list at own source new_source old new one =
    tells_one list at own source new_source old new one.mark one.same one.step one.is

-- a statement is not told from before its node and the one before that
pub first_low : (form : OwnForm) (at : ℕ) → first_of form at ≤ at
first_low Same at = omega arith
first_low Constant at = omega arith
first_low Declaration at = omega arith
first_low Gone at = omega arith

-- a statement is told by the walk that begins there
pub begins_there : (other list : PrintedList) (own' own : OwnBegin) (from' first first' last : ℕ) (source new_source : SourceFile)
    (old new : MapMaker) → other ≡ list → own' ≡ own → from' ≡ own.at → first' ≡ first
    → BeginsTold own'.form from' other first' last source new_source old new
    → BeginsTold own.form own.at list first last source new_source old new
begins_there other list own' own from' first first' last source new_source old new same is from begin told =
    let P : PrintedList → OwnBegin → ℕ → ℕ → Type 0 = λ l o f t. BeginsTold o.form f l t last source new_source old new in
    subst (λ (l : PrintedList). P l own own.at first) same
    (subst (λ (o : OwnBegin). P other o own.at first) is
    (subst (λ (f : ℕ). P other own' f first) from (subst (λ (t : ℕ). P other own' from' t) begin told)))

-- a piece is told with the name that was put down before
pub one_told : (list : PrintedList) (at own : ℕ) (source new_source : SourceFile) (old mid new : MapMaker) (offset : ℕ)
    (it : MapOrigin) → known new_source ≡ known source → mid ≡ record old { names = mid.names }
    → ((more : List (String Global)) × (mid.names.names.items ≡ old.names.names.items ++ more))
    → offset ≡ offset_of list at → place_of (known source).places own ≢ NOWHERE → it.source ≡ source.number
    → it.place ≡ place_within (known source).text (place_of (known source).places own)
    → IsNameAt (known source).text (place_of (known source).places own) mid.names.names.items it.name
    → IsTold mid new (record { offset = offset; origin = Some it })
    → IsOneTold list at own source new_source old new
one_told list at own source new_source old mid new offset it stays same kept offset_is somewhere number place name step = record {
  same = stays;
  mark = record { offset = offset; origin = Some it };
  step = told_named old mid new (record { offset = offset; origin = Some it }) same kept step;
  is = record {
    offset = offset_is;
    origin = record {
      somewhere = somewhere;
      number = number;
      place = place;
      name = subst (λ (names : List (String Global)). IsNameAt (known source).text (place_of (known source).places own) names it.name)
          (sym step.bundle.names)
          (name_stays (known source).text (place_of (known source).places own) mid.names.names.items step.bundle.more it.name name);
    };
  };
  origin = refl;
}
