-- Arguments, statements and functions are written one after another: the code of more of them is that of the first ones and that of the last one.
use Rattle.std.proofs.Common.{◌≡◌, ℕ, suc, ◌+◌, List, [], ◌∷◌, ◌++◌, length, sym, refl, ap, ◌∙◌, append_assoc, append-nil, add-zero, add-suc, arith, length-append}
use Rattle.syntax.specs.Ast.{Ast, args, stmts, prog}
use Rattle.syntax.specs.Ast as A
use Rattle.semantics.specs.Program.{Exprs, Stmts}
use Rattle.simulation.specs.Code.{Entry, argument, code_e, code_es, code_s, code_ss, code_b, entries_of, starts_of}
use Rattle.simulation.specs.Code as Code
use Rattle.events.specs.Event.{count}
use Rattle.text_rules.specs.Resolve.{part}

-- how many functions
unfoldable pub funs : Ast prog → ℕ
funs A.no_funs = 0
funs (A.more_funs l f) = suc (funs l)

module _ (value means : ℕ → ℕ) where
  abbrev of-args : Ast args → Exprs → Exprs
  of-args l es = part value means l es

  abbrev of-stmts : Ast stmts → Stmts → Stmts
  of-stmts l ss = part value means l ss

  abbrev of-funs : Ast prog → List Stmts → List Stmts
  of-funs l bs = part value means l bs

  pub args-code : (l : Ast args) (es : Exprs) → code_es (of-args l es) ≡ code_es (of-args l Exprs.none) ++ code_es es
  unfolding part code_e
  args-code A.no_args es = refl
  args-code (A.more_args l e) es =
      let x = part value means e in
      args-code l (Exprs.more x es)
      ∙ ap (λ (r : List Entry). code_es (of-args l Exprs.none) ++ r) (sym (append_assoc (code_e x) (argument (length (code_e x)) ∷ []) (code_es es)))
      ∙ sym (append_assoc (code_es (of-args l Exprs.none)) (code_e x ++ argument (length (code_e x)) ∷ []) (code_es es))
      ∙ ap (λ (r : List Entry). r ++ code_es es) (sym (args-code l (Exprs.more x Exprs.none)))

  pub args_count : (l : Ast args) (es : Exprs) (n : ℕ) → Code.count (of-args l es) n ≡ Code.count es (n + count l)
  unfolding part Code.count count
  args_count A.no_args es n = ap (λ (k : ℕ). Code.count es k) (sym (add-zero n))
  args_count (A.more_args l e) es n = args_count l (Exprs.more (part value means e) es) n ∙ ap (λ (k : ℕ). Code.count es k) (sym (add-suc n (count l)))

  pub stmts-code : (l : Ast stmts) (ss : Stmts) → code_ss (of-stmts l ss) ≡ code_ss (of-stmts l Stmts.end) ++ code_ss ss
  unfolding part code_s
  stmts-code A.no_stmts ss = refl
  stmts-code (A.more_stmts l s) ss =
      let x = part value means s in
      stmts-code l (Stmts.next x ss)
      ∙ ap (λ (r : List Entry). code_ss (of-stmts l Stmts.end) ++ (r ++ code_ss ss)) (sym (append-nil (code_s x)))
      ∙ sym (append_assoc (code_ss (of-stmts l Stmts.end)) (code_s x ++ []) (code_ss ss))
      ∙ ap (λ (r : List Entry). r ++ code_ss ss) (sym (stmts-code l (Stmts.next x Stmts.end)))

  -- a program's functions are those of its parts
  pub funs-append : (l : Ast prog) (bs : List Stmts) → of-funs l bs ≡ of-funs l [] ++ bs
  unfolding part
  funs-append A.no_funs bs = refl
  funs-append (A.more_funs l f) bs =
      let x = part value means f in
      funs-append l (x ∷ bs) ∙ sym (append_assoc (of-funs l []) (x ∷ []) bs) ∙ ap (λ (r : List Stmts). r ++ bs) (sym (funs-append l (x ∷ [])))

  pub funs-length : (l : Ast prog) → length (of-funs l []) ≡ funs l
  unfolding part funs
  funs-length A.no_funs = refl
  funs-length (A.more_funs l f) =
      let x = part value means f in
      ap length (funs-append l (x ∷ [])) ∙ omega (arith, length-append (of-funs l []) (x ∷ []), funs-length l)

entries-append : (xs ys : List Stmts) → entries_of (xs ++ ys) ≡ entries_of xs ++ entries_of ys
unfolding entries_of
entries-append [] ys = refl
entries-append (x ∷ xs) ys = ap (λ (r : List Entry). code_b x ++ r) (entries-append xs ys) ∙ sym (append_assoc (code_b x) (entries_of xs) (entries_of ys))

starts-append : (i : ℕ) (xs ys : List Stmts) → starts_of i (xs ++ ys) ≡ starts_of i xs ++ starts_of (i + length (entries_of xs)) ys
unfolding entries_of starts_of
starts-append i [] ys = ap (λ (k : ℕ). starts_of k ys) (sym (add-zero i))
starts-append i (x ∷ xs) ys =
    let e : i + length (code_b x) + length (entries_of xs) ≡ i + length (code_b x ++ entries_of xs) = omega (arith, length-append (code_b x) (entries_of xs)) in
    ap (λ (r : List ℕ). i ∷ r) (starts-append (i + length (code_b x)) xs ys ∙ ap (λ (k : ℕ). starts_of (i + length (code_b x)) xs ++ starts_of k ys) e)

pub starts-length : (i : ℕ) (bs : List Stmts) → length (starts_of i bs) ≡ length bs
unfolding starts_of
starts-length i [] = refl
starts-length i (b ∷ bs) = ap suc (starts-length (i + length (code_b b)) bs)

module _ (value means : ℕ → ℕ) where
  -- one function more
  pub funs-code : (l : Ast prog) (b : Stmts) → entries_of (part value means l (b ∷ [])) ≡ entries_of (part value means l []) ++ code_b b
  unfolding entries_of
  funs-code l b = ap entries_of (funs-append value means l (b ∷ [])) ∙ entries-append (part value means l []) (b ∷ []) ∙ ap (λ (r : List Entry). entries_of (part value means l []) ++ r) (append-nil (code_b b))

  pub funs-starts : (i : ℕ) (l : Ast prog) (b : Stmts) → starts_of i (part value means l (b ∷ [])) ≡ starts_of i (part value means l []) ++ (i + length (entries_of (part value means l []))) ∷ []
  unfolding starts_of
  funs-starts i l b = ap (starts_of i) (funs-append value means l (b ∷ [])) ∙ starts-append i (part value means l []) (b ∷ [])
