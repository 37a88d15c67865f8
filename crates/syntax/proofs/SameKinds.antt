-- Kinds of nodes, and of tokens, are the same where their numbers are.
use Rattle.std.proofs.Common.{◌≡◌, ℕ, List, [], ◌∷◌, get_or, sym, refl, ap, ◌∙◌}
use Rattle.syntax.specs.NodeKinds.{node_number}
use Rattle.syntax.specs.TokenKinds.{kind_number}
use Rattle.syntax.specs.declared.node.NodeKind.{NodeKind}
use Rattle.syntax.specs.declared.node.NodeKind.TheVariants as node
use Rattle.syntax.specs.declared.token.TokenKind.{TokenKind}
use Rattle.syntax.specs.declared.token.TokenKind.TheVariants as token

-- the kinds in the order of their numbers
abbrev nodes : List NodeKind
nodes = node.Number ∷ node.Number ∷ node.Negative ∷ node.Name ∷ node.Call ∷ node.Bracket ∷ node.Times ∷ node.Plus ∷ node.Minus ∷ node.NoArgs ∷ node.MoreArgs ∷ node.Always ∷ node.Never ∷ node.Compare ∷ node.Both ∷ node.Either ∷ node.Empty ∷ node.Declare ∷ node.DeclareFree ∷ node.DeclareOwn ∷ node.Assign ∷ node.Eval ∷ node.Block ∷ node.IfElse ∷ node.While ∷ node.Return ∷ node.Fail ∷ node.NoStmts ∷ node.MoreStmts ∷ node.Braced ∷ node.NoParams ∷ node.MoreParams ∷ node.Function ∷ node.NoFuns ∷ node.MoreFuns ∷ []

node-back : (k : NodeKind) → get_or nodes (node_number k) node.Number ≡ k
node-back node.Number = refl
node-back node.Negative = refl
node-back node.Name = refl
node-back node.Call = refl
node-back node.Bracket = refl
node-back node.Times = refl
node-back node.Plus = refl
node-back node.Minus = refl
node-back node.NoArgs = refl
node-back node.MoreArgs = refl
node-back node.Always = refl
node-back node.Never = refl
node-back node.Compare = refl
node-back node.Both = refl
node-back node.Either = refl
node-back node.Empty = refl
node-back node.Declare = refl
node-back node.DeclareFree = refl
node-back node.DeclareOwn = refl
node-back node.Assign = refl
node-back node.Eval = refl
node-back node.Block = refl
node-back node.IfElse = refl
node-back node.While = refl
node-back node.Return = refl
node-back node.Fail = refl
node-back node.NoStmts = refl
node-back node.MoreStmts = refl
node-back node.Braced = refl
node-back node.NoParams = refl
node-back node.MoreParams = refl
node-back node.Function = refl
node-back node.NoFuns = refl
node-back node.MoreFuns = refl

pub same-node : {j k : NodeKind} → node_number j ≡ node_number k → j ≡ k
same-node {j} {k} e = sym (node-back j) ∙ ap (λ (n : ℕ). get_or nodes n node.Number) e ∙ node-back k

-- the kinds in the order of their numbers
abbrev tokens : List TokenKind
tokens = token.End ∷ token.Name ∷ token.Number ∷ token.Int ∷ token.Free ∷ token.If ∷ token.Else ∷ token.While ∷ token.Return ∷ token.Fail ∷ token.True ∷ token.False ∷ token.Open ∷ token.Close ∷ token.Lbrace ∷ token.Rbrace ∷ token.Semi ∷ token.Comma ∷ token.Assign ∷ token.Less ∷ token.LessEq ∷ token.Greater ∷ token.GreaterEq ∷ token.Equal ∷ token.Unequal ∷ token.And ∷ token.Or ∷ token.Plus ∷ token.Minus ∷ token.Times ∷ token.DotDot ∷ []

token-back : (k : TokenKind) → get_or tokens (kind_number k) token.End ≡ k
token-back token.End = refl
token-back token.Name = refl
token-back token.Number = refl
token-back token.Int = refl
token-back token.Free = refl
token-back token.If = refl
token-back token.Else = refl
token-back token.While = refl
token-back token.Return = refl
token-back token.Fail = refl
token-back token.True = refl
token-back token.False = refl
token-back token.Open = refl
token-back token.Close = refl
token-back token.Lbrace = refl
token-back token.Rbrace = refl
token-back token.Semi = refl
token-back token.Comma = refl
token-back token.Assign = refl
token-back token.Less = refl
token-back token.LessEq = refl
token-back token.Greater = refl
token-back token.GreaterEq = refl
token-back token.Equal = refl
token-back token.Unequal = refl
token-back token.And = refl
token-back token.Or = refl
token-back token.Plus = refl
token-back token.Minus = refl
token-back token.Times = refl
token-back token.DotDot = refl

pub same-token : {j k : TokenKind} → kind_number j ≡ kind_number k → j ≡ k
same-token {j} {k} e = sym (token-back j) ∙ ap (λ (n : ℕ). get_or tokens n token.End) e ∙ token-back k
