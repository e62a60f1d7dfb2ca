-- The texts that are printed of an expression (ECMA-262, 13): its tokens are derived from the list
-- by the productions, and are the tokens of the text. So a parser by these productions reads the
-- text as the list, but for parentheses that the list lacks. Functions, classes and patterns, which
-- the productions of 13.15.5, 14.3.3 and 15 give, are a parameter.
use Rattle.std.specs.Prelude.{◌≡◌, ◌≢◌, ℕ, nat_le, Bool, true, false, not, ◌&&◌, ◌||◌, List, [], ◌∷◌, ◌++◌, Option, if◌then◌else◌, bytes_eq, codes, chars, flat_map}
use Rattle.std.specs.Char.Escape.{encode_utf16}
use Rattle.bundle_syntax.specs.declared.kind.MetaPropKind.TheVariants as m
use Rattle.bundle_syntax.specs.declared.operator.AssignOp.{AssignOp}
use Rattle.bundle_syntax.specs.declared.operator.AssignOp.TheVariants as a
use Rattle.bundle_syntax.specs.declared.operator.BinaryOp.{BinaryOp}
use Rattle.bundle_syntax.specs.declared.operator.BinaryOp.TheVariants as o
use Rattle.bundle_syntax.specs.declared.operator.UnaryOp.{UnaryOp}
use Rattle.bundle_syntax.specs.declared.operator.UnaryOp.TheVariants as u
use Rattle.bundle_syntax.specs.declared.operator.UpdateOp.{UpdateOp}
use Rattle.bundle_syntax.specs.declared.operator.UpdateOp.TheVariants as d
use Rattle.bundle_syntax.specs.declared.piece.Role.{Role}
use Rattle.bundle_syntax.specs.Item as h
use Rattle.bundle_syntax.specs.Item.{Head, Item}
use Rattle.bundle_syntax.specs.Text.{unary_text, update_text, binary_text, assign_text}
use Rattle.bundle_js_print.specs.Literal.{IsLiteralOf}
use Rattle.bundle_js_print.specs.Tokens.{Token, Name, Mark, Numeral, Quoted, Expressed, Span, NoLine, AreTokens, begins_with, ends_before}

-- a nonterminal, or a part of one that has a place of its own in a list
pub data Form : Type 0 where
  Expression : Form
  Assignment : Form
  Conditional : Form
  ShortCircuit : Form
  Coalesce : Form
  CoalesceHead : Form
  LogicalOr : Form
  LogicalAnd : Form
  BitOr : Form
  BitXor : Form
  BitAnd : Form
  Equality : Form
  Relational : Form
  Shift : Form
  Additive : Form
  Multiplicative : Form
  Exponentiation : Form
  Unary : Form
  Update : Form
  LeftHandSide : Form
  New : Form
  Call : Form
  Optional : Form
  Member : Form
  Primary : Form
  -- what is called, or has a property: a member or a call; and what `?.` may stand behind
  Callee : Form
  Linked : Form
  -- what is assigned to by `=`, and by another operator
  Target : Form
  SimpleTarget : Form
  -- two or more operands of commas
  Operands : Form
  -- a property behind what has it, and the same behind `?.`
  Property : Form
  Link : Form
  -- arguments in their parentheses, those between them, and one of them, which is an element too
  Arguments : Form
  ArgumentList : Form
  Element : Form
  Elements : Form
  -- properties of an object, one of them, and its name
  Definitions : Form
  Definition : Form
  Key : Form
  -- a template, and what of it stands behind `${`, before these texts
  Template : Form
  Spans : List (List ℕ) → Form
  -- what the productions of 13.15.5, 14.3.3 and 15 give
  Function : Form
  Class : Form
  Arrow : Form
  Method : Form
  Pattern : Form

-- productions with one nonterminal on the right
pub data IsUnit : Form → Form → Type 0 where
  expression : IsUnit Expression Assignment
  assignment : IsUnit Assignment Conditional
  arrow : IsUnit Assignment Arrow
  conditional : IsUnit Conditional ShortCircuit
  logical : IsUnit ShortCircuit LogicalOr
  coalesce : IsUnit ShortCircuit Coalesce
  coalesce_head : IsUnit CoalesceHead Coalesce
  coalesce_first : IsUnit CoalesceHead BitOr
  logical_or : IsUnit LogicalOr LogicalAnd
  logical_and : IsUnit LogicalAnd BitOr
  bit_or : IsUnit BitOr BitXor
  bit_xor : IsUnit BitXor BitAnd
  bit_and : IsUnit BitAnd Equality
  equality : IsUnit Equality Relational
  relational : IsUnit Relational Shift
  shift : IsUnit Shift Additive
  additive : IsUnit Additive Multiplicative
  multiplicative : IsUnit Multiplicative Exponentiation
  exponentiation : IsUnit Exponentiation Unary
  unary : IsUnit Unary Update
  update : IsUnit Update LeftHandSide
  new_expression : IsUnit LeftHandSide New
  call : IsUnit LeftHandSide Call
  optional : IsUnit LeftHandSide Optional
  member : IsUnit New Member
  primary : IsUnit Member Primary
  called_member : IsUnit Callee Member
  called_call : IsUnit Callee Call
  linked_callee : IsUnit Linked Callee
  linked_chain : IsUnit Linked Optional
  simple_target : IsUnit SimpleTarget LeftHandSide
  target : IsUnit Target SimpleTarget
  pattern : IsUnit Target Pattern
  function : IsUnit Primary Function
  class : IsUnit Primary Class
  template : IsUnit Primary Template
  method : IsUnit Definition Method

-- the production of a binary operator, with its operands (13.6 to 13.13)
pub record Sides : Type 0 where
  pub whole : Form
  pub left : Form
  pub right : Form

-- operands that stand from the left to the right
abbrev pub leftward : Form → Form → Sides
leftward whole right = record { whole = whole; left = whole; right = right }

abbrev pub sides : BinaryOp → Sides
sides o.NullishCoalescing = record { whole = Coalesce; left = CoalesceHead; right = BitOr }
sides o.Exp = record { whole = Exponentiation; left = Update; right = Exponentiation }
sides o.LogicalOr = leftward LogicalOr LogicalAnd
sides o.LogicalAnd = leftward LogicalAnd BitOr
sides o.BitOr = leftward BitOr BitXor
sides o.BitXor = leftward BitXor BitAnd
sides o.BitAnd = leftward BitAnd Equality
sides o.EqEq = leftward Equality Relational
sides o.NotEq = leftward Equality Relational
sides o.EqEqEq = leftward Equality Relational
sides o.NotEqEq = leftward Equality Relational
sides o.Lt = leftward Relational Shift
sides o.LtEq = leftward Relational Shift
sides o.Gt = leftward Relational Shift
sides o.GtEq = leftward Relational Shift
sides o.In = leftward Relational Shift
sides o.InstanceOf = leftward Relational Shift
sides o.LShift = leftward Shift Additive
sides o.RShift = leftward Shift Additive
sides o.ZeroFillRShift = leftward Shift Additive
sides o.Add = leftward Additive Multiplicative
sides o.Sub = leftward Additive Multiplicative
sides o.Mul = leftward Multiplicative Exponentiation
sides o.Div = leftward Multiplicative Exponentiation
sides o.Mod = leftward Multiplicative Exponentiation

abbrev pub is_letter : ℕ → Bool
is_letter c = nat_le 97 c && nat_le c 122

-- the token of an operator: a name if it begins with a letter
abbrev pub operator : List ℕ → Token
operator cs = if begins_with is_letter cs then Name cs else Mark cs

abbrev pub word : List ℕ → Token
word cs = Name cs

abbrev pub mark : List ℕ → Token
mark cs = Mark cs

-- a node in a field, with what is in it
abbrev pub node : ℕ → Head → List Item → List Item
node field head inside = h.Open field head ∷ (inside ++ h.Close ∷ [])

-- the texts of a template, which stand in the list behind its expressions
abbrev pub quasis : List (List ℕ) → List Item
quasis texts = flat_map (λ raw. node 1 (h.TplElement raw) []) texts

abbrev pub truth_text : Bool → List ℕ
truth_text true = codes "true"
truth_text false = codes "false"

-- the tokens of what stands in a field of a list; whether `in` may stand there (the parameter In).
-- Others are the derivations of the forms that are a parameter
pub data Derives (Others : Bool → Form → ℕ → List Item → List Token → Type 0) :
    Bool → Form → ℕ → List Item → List Token → Type 0 where
  other : {i : Bool} {form : Form} {f : ℕ} {xs : List Item} {ts : List Token} →
      Others i form f xs ts → Derives Others i form f xs ts
  by_unit : {i : Bool} {p q : Form} {f : ℕ} {xs : List Item} {ts : List Token} →
      IsUnit p q → Derives Others i q f xs ts → Derives Others i p f xs ts
  -- primary expressions (13.2)
  this : {i : Bool} {f : ℕ} →
      Derives Others i Primary f (node f h.ThisExpr []) (word (codes "this") ∷ [])
  name : {i : Bool} {f ctxt : ℕ} {sym : List ℕ} {role : Role} →
      Derives Others i Primary f (h.Ident f sym ctxt role ∷ []) (Name (chars sym) ∷ [])
  null : {i : Bool} {f : ℕ} →
      Derives Others i Primary f (node f h.Null []) (word (codes "null") ∷ [])
  truth : {i : Bool} {f : ℕ} {value : Bool} →
      Derives Others i Primary f (node f (h.Bool value) []) (Name (truth_text value) ∷ [])
  number : {i : Bool} {f : ℕ} {raw : List ℕ} →
      Derives Others i Primary f (node f (h.Number raw) []) (Numeral (chars raw) ∷ [])
  big : {i : Bool} {f : ℕ} {raw : List ℕ} →
      Derives Others i Primary f (node f (h.BigInt raw) []) (Numeral (chars raw) ∷ [])
  string : {i : Bool} {f : ℕ} {value literal : List ℕ} {raw : Option (List ℕ)} →
      IsLiteralOf literal (flat_map encode_utf16 (chars value)) →
      Derives Others i Primary f (node f (h.Str value raw) []) (Quoted literal ∷ [])
  regex : {i : Bool} {f : ℕ} {raw : List ℕ} →
      Derives Others i Primary f (node f (h.Regex raw) []) (Expressed (chars raw) ∷ [])
  array : {i : Bool} {f : ℕ} {xs : List Item} {ts : List Token} →
      Derives Others true Elements 0 xs ts →
      Derives Others i Primary f (node f h.ArrayLit xs)
      (mark (codes "[") ∷ (ts ++ mark (codes "]") ∷ []))
  object : {i : Bool} {f : ℕ} {xs : List Item} {ts : List Token} →
      Derives Others true Definitions 0 xs ts →
      Derives Others i Primary f (node f h.ObjectLit xs)
      (mark (codes "{") ∷ (ts ++ mark (codes "}") ∷ []))
  -- parentheses of the list
  parens : {i : Bool} {f : ℕ} {xs : List Item} {ts : List Token} →
      Derives Others true Expression 0 xs ts →
      Derives Others i Primary f (node f h.ParenExpr xs)
      (mark (codes "(") ∷ (ts ++ mark (codes ")") ∷ []))
  -- parentheses that the list lacks
  added_parens : {i : Bool} {f : ℕ} {xs : List Item} {ts : List Token} →
      Derives Others true Expression f xs ts →
      Derives Others i Primary f xs (mark (codes "(") ∷ (ts ++ mark (codes ")") ∷ []))
  -- elements of an array, of which each hole and each element but the last has a comma (13.2.4)
  no_elements : {f : ℕ} → Derives Others true Elements f [] []
  last_element : {f : ℕ} {xs : List Item} {ts : List Token} →
      Derives Others true Element f xs ts → Derives Others true Elements f xs ts
  element : {f : ℕ} {xs ys : List Item} {ts us : List Token} →
      Derives Others true Element f xs ts → Derives Others true Elements f ys us →
      Derives Others true Elements f (xs ++ ys) (ts ++ mark (codes ",") ∷ us)
  hole : {f : ℕ} {xs : List Item} {ts : List Token} →
      Derives Others true Elements f xs ts →
      Derives Others true Elements f (h.Hole f ∷ xs) (mark (codes ",") ∷ ts)
  plain : {f : ℕ} {xs : List Item} {ts : List Token} →
      Derives Others true Assignment 1 xs ts →
      Derives Others true Element f (node f (h.ExprOrSpread false) xs) ts
  spread : {f : ℕ} {xs : List Item} {ts : List Token} →
      Derives Others true Assignment 1 xs ts →
      Derives Others true Element f (node f (h.ExprOrSpread true) xs) (mark (codes "...") ∷ ts)
  -- properties of an object (13.2.5)
  no_definitions : {f : ℕ} → Derives Others true Definitions f [] []
  last_definition : {f : ℕ} {xs : List Item} {ts : List Token} →
      Derives Others true Definition f xs ts → Derives Others true Definitions f xs ts
  definition : {f : ℕ} {xs ys : List Item} {ts us : List Token} →
      Derives Others true Definition f xs ts → Derives Others true Definitions f ys us →
      Derives Others true Definitions f (xs ++ ys) (ts ++ mark (codes ",") ∷ us)
  shorthand : {f ctxt : ℕ} {sym : List ℕ} {role : Role} →
      Derives Others true Definition f (h.Ident f sym ctxt role ∷ []) (Name (chars sym) ∷ [])
  key_value : {f : ℕ} {xs ys : List Item} {ts us : List Token} →
      Derives Others true Key 0 xs ts → Derives Others true Assignment 1 ys us →
      Derives Others true Definition f (node f h.KeyValueProp (xs ++ ys))
      (ts ++ mark (codes ":") ∷ us)
  spread_object : {f : ℕ} {xs : List Item} {ts : List Token} →
      Derives Others true Assignment 0 xs ts →
      Derives Others true Definition f (node f h.SpreadElement xs) (mark (codes "...") ∷ ts)
  name_key : {f : ℕ} {sym : List ℕ} →
      Derives Others true Key f (node f (h.IdentName sym) []) (Name (chars sym) ∷ [])
  string_key : {f : ℕ} {value literal : List ℕ} {raw : Option (List ℕ)} →
      IsLiteralOf literal (flat_map encode_utf16 (chars value)) →
      Derives Others true Key f (node f (h.Str value raw) []) (Quoted literal ∷ [])
  number_key : {f : ℕ} {raw : List ℕ} →
      Derives Others true Key f (node f (h.Number raw) []) (Numeral (chars raw) ∷ [])
  big_key : {f : ℕ} {raw : List ℕ} →
      Derives Others true Key f (node f (h.BigInt raw) []) (Numeral (chars raw) ∷ [])
  computed_key : {f : ℕ} {xs : List Item} {ts : List Token} →
      Derives Others true Assignment 0 xs ts →
      Derives Others true Key f (node f h.ComputedPropName xs)
      (mark (codes "[") ∷ (ts ++ mark (codes "]") ∷ []))
  -- templates (13.2.8): the list has all expressions first, and then all texts
  whole_template : {i : Bool} {f : ℕ} (raw : List ℕ) →
      Derives Others i Template f (node f h.Tpl (quasis (raw ∷ [])))
      (Span (codes "`" ++ chars raw ++ codes "`") ∷ [])
  template : {i : Bool} {f : ℕ} (raw : List ℕ) (raws : List (List ℕ))
      {xs : List Item} {ts : List Token} →
      Derives Others true (Spans raws) 0 xs ts →
      Derives Others i Template f (node f h.Tpl (xs ++ quasis (raw ∷ raws)))
      (Span (codes "`" ++ chars raw ++ codes "${") ∷ ts)
  last_span : {f : ℕ} {raw : List ℕ} {xs : List Item} {ts : List Token} →
      Derives Others true Expression f xs ts →
      Derives Others true (Spans (raw ∷ [])) f xs
      (ts ++ Span (codes "}" ++ chars raw ++ codes "`") ∷ [])
  span : {f : ℕ} {raw : List ℕ} {raws : List (List ℕ)} {xs ys : List Item} {ts us : List Token} →
      Derives Others true Expression f xs ts → Derives Others true (Spans raws) f ys us →
      Derives Others true (Spans (raw ∷ raws)) f (xs ++ ys)
      (ts ++ Span (codes "}" ++ chars raw ++ codes "${") ∷ us)
  -- properties (13.3.2)
  dot : {i : Bool} {f : ℕ} {sym : List ℕ} →
      Derives Others i Property f (node f (h.IdentName sym) [])
      (mark (codes ".") ∷ Name (chars sym) ∷ [])
  private_dot : {i : Bool} {f : ℕ} {sym : List ℕ} →
      Derives Others i Property f (node f (h.PrivateName sym) [])
      (mark (codes ".") ∷ Name (codes "#" ++ chars sym) ∷ [])
  brackets : {i : Bool} {f : ℕ} {xs : List Item} {ts : List Token} →
      Derives Others true Expression 0 xs ts →
      Derives Others i Property f (node f h.ComputedPropName xs)
      (mark (codes "[") ∷ (ts ++ mark (codes "]") ∷ []))
  member : {i : Bool} {f : ℕ} {xs ys : List Item} {ts us : List Token} →
      Derives Others i Member 0 xs ts → Derives Others i Property 1 ys us →
      Derives Others i Member f (node f h.MemberExpr (xs ++ ys)) (ts ++ us)
  call_member : {i : Bool} {f : ℕ} {xs ys : List Item} {ts us : List Token} →
      Derives Others i Call 0 xs ts → Derives Others i Property 1 ys us →
      Derives Others i Call f (node f h.MemberExpr (xs ++ ys)) (ts ++ us)
  super_property : {i : Bool} {f : ℕ} {xs : List Item} {ts : List Token} →
      Derives Others i Property 0 xs ts →
      Derives Others i Member f (node f h.SuperPropExpr xs) (word (codes "super") ∷ ts)
  tagged : {i : Bool} {f : ℕ} {xs ys : List Item} {ts us : List Token} →
      Derives Others i Member 0 xs ts → Derives Others i Template 1 ys us →
      Derives Others i Member f (node f h.TaggedTpl (xs ++ ys)) (ts ++ us)
  call_tagged : {i : Bool} {f : ℕ} {xs ys : List Item} {ts us : List Token} →
      Derives Others i Call 0 xs ts → Derives Others i Template 1 ys us →
      Derives Others i Call f (node f h.TaggedTpl (xs ++ ys)) (ts ++ us)
  new_target : {i : Bool} {f : ℕ} →
      Derives Others i Member f (node f (h.MetaPropExpr m.NewTarget) [])
      (word (codes "new") ∷ mark (codes ".") ∷ word (codes "target") ∷ [])
  import_meta : {i : Bool} {f : ℕ} →
      Derives Others i Member f (node f (h.MetaPropExpr m.ImportMeta) [])
      (word (codes "import") ∷ mark (codes ".") ∷ word (codes "meta") ∷ [])
  -- `new` and calls (13.3.5 to 13.3.10)
  new_with : {i : Bool} {f : ℕ} {xs ys : List Item} {ts us : List Token} →
      Derives Others i Member 0 xs ts → Derives Others i Arguments 1 ys us →
      Derives Others i Member f (node f (h.NewExpr true) (xs ++ ys))
      (word (codes "new") ∷ (ts ++ us))
  new_without : {i : Bool} {f : ℕ} {xs : List Item} {ts : List Token} →
      Derives Others i New 0 xs ts →
      Derives Others i New f (node f (h.NewExpr false) xs) (word (codes "new") ∷ ts)
  call : {i : Bool} {f : ℕ} {xs ys : List Item} {ts us : List Token} →
      Derives Others i Callee 0 xs ts → Derives Others i Arguments 1 ys us →
      Derives Others i Call f (node f h.CallExpr (xs ++ ys)) (ts ++ us)
  super_call : {i : Bool} {f : ℕ} {xs : List Item} {ts : List Token} →
      Derives Others i Arguments 1 xs ts →
      Derives Others i Call f (node f h.CallExpr (node 0 h.Super [] ++ xs))
      (word (codes "super") ∷ ts)
  import_call : {i : Bool} {f : ℕ} {xs : List Item} {ts : List Token} →
      Derives Others true Assignment 1 xs ts →
      Derives Others i Call f
      (node f h.CallExpr (node 0 h.Import [] ++ node 1 (h.ExprOrSpread false) xs))
      (word (codes "import") ∷ mark (codes "(") ∷ (ts ++ mark (codes ")") ∷ []))
  no_arguments : {i : Bool} {f : ℕ} →
      Derives Others i Arguments f [] (mark (codes "(") ∷ mark (codes ")") ∷ [])
  arguments : {i : Bool} {f : ℕ} {xs : List Item} {ts : List Token} →
      Derives Others true ArgumentList f xs ts →
      Derives Others i Arguments f xs (mark (codes "(") ∷ (ts ++ mark (codes ")") ∷ []))
  argument : {f : ℕ} {xs : List Item} {ts : List Token} →
      Derives Others true Element f xs ts → Derives Others true ArgumentList f xs ts
  more_arguments : {f : ℕ} {xs ys : List Item} {ts us : List Token} →
      Derives Others true ArgumentList f xs ts → Derives Others true Element f ys us →
      Derives Others true ArgumentList f (xs ++ ys) (ts ++ mark (codes ",") ∷ us)
  -- optional chains (13.3.9): a part is of what stands before it, and a chain goes on behind one
  link_name : {i : Bool} {f : ℕ} {sym : List ℕ} →
      Derives Others i Link f (node f (h.IdentName sym) [])
      (mark (codes "?.") ∷ Name (chars sym) ∷ [])
  link_private : {i : Bool} {f : ℕ} {sym : List ℕ} →
      Derives Others i Link f (node f (h.PrivateName sym) [])
      (mark (codes "?.") ∷ Name (codes "#" ++ chars sym) ∷ [])
  link_brackets : {i : Bool} {f : ℕ} {xs : List Item} {ts : List Token} →
      Derives Others true Expression 0 xs ts →
      Derives Others i Link f (node f h.ComputedPropName xs)
      (mark (codes "?.") ∷ mark (codes "[") ∷ (ts ++ mark (codes "]") ∷ []))
  optional_member : {i : Bool} {f : ℕ} {xs ys : List Item} {ts us : List Token} →
      Derives Others i Linked 0 xs ts → Derives Others i Link 1 ys us →
      Derives Others i Optional f (node f (h.OptChainExpr true) (node 1 h.MemberExpr (xs ++ ys)))
      (ts ++ us)
  optional_call : {i : Bool} {f : ℕ} {xs ys : List Item} {ts us : List Token} →
      Derives Others i Linked 0 xs ts → Derives Others i Arguments 1 ys us →
      Derives Others i Optional f (node f (h.OptChainExpr true) (node 1 h.OptCall (xs ++ ys)))
      (ts ++ mark (codes "?.") ∷ us)
  chain_member : {i : Bool} {f : ℕ} {xs ys : List Item} {ts us : List Token} →
      Derives Others i Optional 0 xs ts → Derives Others i Property 1 ys us →
      Derives Others i Optional f (node f (h.OptChainExpr false) (node 1 h.MemberExpr (xs ++ ys)))
      (ts ++ us)
  chain_call : {i : Bool} {f : ℕ} {xs ys : List Item} {ts us : List Token} →
      Derives Others i Optional 0 xs ts → Derives Others i Arguments 1 ys us →
      Derives Others i Optional f (node f (h.OptChainExpr false) (node 1 h.OptCall (xs ++ ys)))
      (ts ++ us)
  -- operators (13.4 to 13.14)
  postfix : {i : Bool} {f : ℕ} {op : UpdateOp} {xs : List Item} {ts : List Token} →
      Derives Others i LeftHandSide 2 xs ts →
      Derives Others i Update f (node f (h.UpdateExpr op false) xs)
      (ts ++ NoLine ∷ Mark (update_text op) ∷ [])
  prefix : {i : Bool} {f : ℕ} {op : UpdateOp} {xs : List Item} {ts : List Token} →
      Derives Others i Unary 2 xs ts →
      Derives Others i Update f (node f (h.UpdateExpr op true) xs) (Mark (update_text op) ∷ ts)
  unary : {i : Bool} {f : ℕ} {op : UnaryOp} {xs : List Item} {ts : List Token} →
      Derives Others i Unary 1 xs ts →
      Derives Others i Unary f (node f (h.UnaryExpr op) xs) (operator (unary_text op) ∷ ts)
  await : {i : Bool} {f : ℕ} {xs : List Item} {ts : List Token} →
      Derives Others i Unary 0 xs ts →
      Derives Others i Unary f (node f h.AwaitExpr xs) (word (codes "await") ∷ ts)
  binary : {i : Bool} {f : ℕ} {op : BinaryOp} {xs ys : List Item} {ts us : List Token} →
      (op ≡ o.In → i ≡ true) →
      Derives Others i ((sides op).left) 1 xs ts → Derives Others i ((sides op).right) 2 ys us →
      Derives Others i ((sides op).whole) f (node f (h.BinExpr op) (xs ++ ys))
      (ts ++ operator (binary_text op) ∷ us)
  private_in : {f : ℕ} {sym : List ℕ} {xs : List Item} {ts : List Token} →
      Derives Others true Shift 2 xs ts →
      Derives Others true Relational f
      (node f (h.BinExpr o.In) (node 1 (h.PrivateName sym) [] ++ xs))
      (Name (codes "#" ++ chars sym) ∷ word (codes "in") ∷ ts)
  conditional : {i : Bool} {f : ℕ} {xs ys zs : List Item} {ts us vs : List Token} →
      Derives Others i ShortCircuit 0 xs ts → Derives Others true Assignment 1 ys us →
      Derives Others i Assignment 2 zs vs →
      Derives Others i Conditional f (node f h.CondExpr (xs ++ ys ++ zs))
      ((ts ++ mark (codes "?") ∷ us) ++ mark (codes ":") ∷ vs)
  -- assignments and `yield` (13.15 and 15.5)
  bound : {i : Bool} {f ctxt : ℕ} {sym : List ℕ} {role : Role} →
      Derives Others i SimpleTarget f (node f h.BindingIdent (h.Ident 0 sym ctxt role ∷ []))
      (Name (chars sym) ∷ [])
  assign : {i : Bool} {f : ℕ} {xs ys : List Item} {ts us : List Token} →
      Derives Others i Target 1 xs ts → Derives Others i Assignment 2 ys us →
      Derives Others i Assignment f (node f (h.AssignExpr a.Assign) (xs ++ ys))
      (ts ++ mark (codes "=") ∷ us)
  assign_by : {i : Bool} {f : ℕ} {op : AssignOp} {xs ys : List Item} {ts us : List Token} →
      op ≢ a.Assign →
      Derives Others i SimpleTarget 1 xs ts → Derives Others i Assignment 2 ys us →
      Derives Others i Assignment f (node f (h.AssignExpr op) (xs ++ ys))
      (ts ++ Mark (assign_text op) ∷ us)
  yield_nothing : {i : Bool} {f : ℕ} →
      Derives Others i Assignment f (node f (h.YieldExpr false) []) (word (codes "yield") ∷ [])
  yield : {i : Bool} {f : ℕ} {xs : List Item} {ts : List Token} →
      Derives Others i Assignment 0 xs ts →
      Derives Others i Assignment f (node f (h.YieldExpr false) xs)
      (word (codes "yield") ∷ NoLine ∷ ts)
  yield_each : {i : Bool} {f : ℕ} {xs : List Item} {ts : List Token} →
      Derives Others i Assignment 0 xs ts →
      Derives Others i Assignment f (node f (h.YieldExpr true) xs)
      (word (codes "yield") ∷ NoLine ∷ mark (codes "*") ∷ ts)
  -- the comma operator (13.16): the list has all its operands side by side
  first_operand : {i : Bool} {f : ℕ} {xs : List Item} {ts : List Token} →
      Derives Others i Assignment f xs ts → Derives Others i Operands f xs ts
  operand : {i : Bool} {f : ℕ} {xs ys : List Item} {ts us : List Token} →
      Derives Others i Operands f xs ts → Derives Others i Assignment f ys us →
      Derives Others i Operands f (xs ++ ys) (ts ++ mark (codes ",") ∷ us)
  sequence : {i : Bool} {f : ℕ} {xs : List Item} {ts : List Token} →
      Derives Others i Operands 0 xs ts →
      Derives Others i Expression f (node f h.SeqExpr xs) ts

-- whether an expression statement may begin with these tokens (14.5)
abbrev pub may_begin_statement : List Token → Bool
may_begin_statement (Mark cs ∷ ts) = not (bytes_eq cs (codes "{"))
may_begin_statement (Name cs ∷ ts) =
    not (bytes_eq cs (codes "function") || (bytes_eq cs (codes "class")
    || ((bytes_eq cs (codes "let") && begins_mark ts)
    || (bytes_eq cs (codes "async") && begins_function ts))))
  where
    begins_mark : List Token → Bool
    begins_mark (Mark cs ∷ ts) = bytes_eq cs (codes "[")
    begins_mark _ = false

    begins_function : List Token → Bool
    begins_function (Name cs ∷ ts) = bytes_eq cs (codes "function")
    begins_function (NoLine ∷ Name cs ∷ ts) = bytes_eq cs (codes "function")
    begins_function _ = false
may_begin_statement _ = true

-- `text`, in UTF-8, is one of the expression that stands in this field of a list. Names, numbers,
-- regular expressions and templates of the list have to be such tokens by themselves
pub record IsPrinted (is_continue : ℕ → Bool)
    (Others : Bool → Form → ℕ → List Item → List Token → Type 0)
    (field : ℕ) (items : List Item) (text : List ℕ) : Type 0 where
  pub tokens : List Token
  pub derived : Derives Others true Expression field items tokens
  pub cut : AreTokens is_continue tokens (chars text)

-- the same of an expression statement
pub record IsPrintedStatement (is_continue : ℕ → Bool)
    (Others : Bool → Form → ℕ → List Item → List Token → Type 0)
    (field : ℕ) (items : List Item) (text : List ℕ) : Type 0 where
  pub inside : List Item
  pub tokens : List Token
  pub listed : items ≡ node field h.ExprStmt inside
  pub derived : Derives Others true Expression 0 inside tokens
  pub begun : may_begin_statement tokens ≡ true
  pub cut : AreTokens is_continue (tokens ++ mark (codes ";") ∷ []) (chars text)

-- whether a node begins with `-` or `--`, or with `+` or `++`
abbrev pub is_sign : Head → Bool → Bool
is_sign (h.UnaryExpr u.Minus) is_minus = is_minus
is_sign (h.UnaryExpr u.Plus) is_minus = not is_minus
is_sign (h.UpdateExpr d.MinusMinus true) is_minus = is_minus
is_sign (h.UpdateExpr d.PlusPlus true) is_minus = not is_minus
is_sign _ is_minus = false

-- where no space stands behind a unary operator, it ends before the operator with which its operand
-- begins
abbrev pub IsApart : UnaryOp → Head → Type 0
IsApart op (h.UnaryExpr inner) =
    (is_continue : ℕ → Bool) (rest : List ℕ)
    → ends_before is_continue (operator (unary_text op)) (unary_text inner ++ rest) ≡ true
IsApart op (h.UpdateExpr inner true) =
    (is_continue : ℕ → Bool) (rest : List ℕ)
    → ends_before is_continue (operator (unary_text op)) (update_text inner ++ rest) ≡ true
IsApart op _ = begins_with is_letter (unary_text op) ≡ false
