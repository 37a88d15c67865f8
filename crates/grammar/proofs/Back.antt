-- Every tree is read back from its tokens, with the numbers that its tokens have. So the tree of a token list is the only one, and its numbers are right.
use Prim.Native.Nat.{ℕ, ◌+◌, ◌*◌, ◌≤◌}
use mathlib.Core.Path.{◌≡◌, refl, sym, ap, ◌∙◌, subst}
use mathlib.Core.Bool.{Bool, true, false}
use mathlib.Core.List.{List, [], ◌∷◌}
use native.Mathlib.Omega.{arith}
use lib.ListN.{length, drop}
use Rattle.syntax.specs.Token.{k_end, k_name, k_open, k_close, k_comma, k_plus, k_minus, k_times, k_and, k_or, k_semi, k_lbrace, k_rbrace, k_int, k_else}
use Rattle.syntax.specs.Tree.{Cat, Tree, cmp_kind, end_onto, onto, width, numbered}
use Rattle.syntax.specs.Tree.{operand, term, sum, args, arg_list, cmp, atom, conj, cond, stmt, stmts, body, params, param_list, fun, prog}
use Rattle.syntax.specs.Tree.{number, negative, name, call, bracket, no_args, some_args, first_arg, next_arg, factor, product, times, addend, plus, minus, cmp_mark, always, never, compare, one_atom, both, one_conj, either, empty, declare, declare_free, declare_own, assign, eval, block, if_else, while, return, fail, no_stmts, more_stmts, braced, no_params, some_params, first_param, next_param, function, no_funs, more_funs}
use Rattle.syntax.specs.Ast.{bit}
use Rattle.grammar.specs.Parse.{ok, read_cmp, more_prog, read_text}
use Rattle.grammar.proofs.Lengths.{onto-length, operand-longer, term-longer, longer, atom-longer, conj-longer, stmt-longer, params-longer}
use Rattle.grammar.proofs.Accept.{Quiet, begins, starts, cmp-quiet}
use Rattle.grammar.proofs.Steps.{clash}
use Rattle.grammar.proofs.Readings.{yes, no, then_ok, ahead, past, ends, Operand, Args, ArgList, Term, Sum, Atom, Conj, Cond, Stmt, Stmts, Body, Params, ParamList, Fun, Prog, number_step, negative-step, name-step, call_step, bracket-step, no-args-step, some-args-step, first-arg-step, next-arg-step, factor-step, times-step, addend-step, plus_step, minus-step, sum_done, cmp_step, always-step, never-step, compare-step, one-atom-step, both-step, one-conj-step, either_step, guard-step, empty-step, declare-step, free_step, EndAt, signed, plain, own-step, assign-step, return-step, fail-step, block-step, while-step, if-step, eval-step, no-stmts-step, more-stmts-step, braced-step, no-params-step, some-params-step, first-param-step, next-param-step, function-step, no-funs-step, more-funs-step}

module _ (ks : List ℕ) where
  -- where the numbers of a tree are counted in another way
  two : (x : ℕ) → x + 1 + 1 ≡ x + 2
  two x = omega arith

  three : (x : ℕ) → x + 1 + 1 + 1 ≡ x + 3
  three x = omega arith

  -- the tokens of an end of a pair stand at p, and the rest r after them
  record Passed (p : ℕ) (a : Bool) (r : List ℕ) : Type 0 where
    next : ℕ
    counts : next ≡ p + 1 + bit a
    stands : EndAt ks p a next
    rest : drop next ks ≡ r

  end-ahead : (a : Bool) (p : ℕ) {r : List ℕ} → drop p ks ≡ end_onto a r → Passed p a r
  end-ahead true p e = let m = ahead ks p e in let n = ahead ks (p + 1) m.next in record { next = p + 1 + 1; counts = refl; stands = signed m.here n.here; rest = n.next }
  end-ahead false p e = let n = ahead ks p e in record { next = p + 1; counts = omega arith; stands = plain n.here; rest = n.next }

  own-width : (i : ℕ) (a b : Bool) → width (declare_own i a b) ≡ 7 + bit a + bit b
  unfolding onto
  own-width i true true = refl
  own-width i true false = refl
  own-width i false true = refl
  own-width i false false = refl

  abbrev Back : (c : Cat) → Tree c → ℕ → ℕ → Type 0
  Back operand t p q = Operand ks t p q
  Back term t p q = Term ks t p q
  Back sum t p q = Sum ks t p q
  Back args t p q = Args ks t p q
  Back arg_list t p q = ArgList ks t p q
  Back cmp t p q = read_cmp ks p ≡ ok t q
  Back atom t p q = Atom ks t p q
  Back conj t p q = Conj ks t p q
  Back cond t p q = Cond ks t p q
  Back stmt t p q = Stmt ks t p q
  Back stmts t p q = Stmts ks t p q
  Back body t p q = Body ks t p q
  Back params t p q = Params ks t p q
  Back param_list t p q = ParamList ks t p q
  Back fun t p q = Fun ks t p q
  Back prog t p q = Prog ks t p q

  back : {c : Cat} (t : Tree c) (p q k : ℕ) (r : List ℕ) → drop p ks ≡ onto t (k ∷ r) → q ≡ p + width t → Quiet c k → Back c (numbered p t) p q
  unfolding onto numbered
  back (number i) p q k r e w z = let a = ahead ks p e in number_step ks p q a.here a.inside w
  back (negative i) p q k r e w z = let a = ahead ks p e in let b = ahead ks (p + 1) a.next in negative-step ks p q a.here b.here a.inside (omega (arith, w))
  back (name i) p q k r e w z = let a = ahead ks p e in let b = ahead ks (p + 1) a.next in name-step ks p q a.here (clash b.here z) a.inside w
  back (call i l) p q k r e w z =
      let a = ahead ks p e in let b = ahead ks (p + 1) a.next in
      subst (λ (x : ℕ). Operand ks (call p (numbered x l)) p q) (two p) (call_step ks p q (numbered (p + 1 + 1) l) a.here b.here a.inside (back l (p + 1 + 1) q k r b.next (omega (arith, w)) tt))
  back (bracket i s) p q k r e w z =
      let a = ahead ks p e in let x = ends ks s (p + 1) a.next refl in
      bracket-step ks p q (p + 1 + width s) (numbered (p + 1) s) a.here a.inside (sum_done ks (p + 1) (p + 1 + width s) k_close (numbered (p + 1) s) (back s (p + 1) (p + 1 + width s) k_close (k ∷ r) a.next refl (refl, refl)) x.here refl refl) x.here (omega (arith, w, onto-length s (k_close ∷ [])))
  back no_args p q k r e w z = let a = ahead ks p e in no-args-step ks p q a.here a.inside w
  back (some_args l) p q k r e w z = let x = ends ks l p e refl in some-args-step ks p q (p + width l) (numbered p l) (back l p (p + width l) k_close (k ∷ r) e refl (refl, refl, refl, refl)) x.here (omega (arith, w, onto-length l (k_close ∷ [])))
  back (first_arg s) p q k r e w z =
      let b = begins s (k ∷ r) in let a = ahead ks p (e ∙ b.is) in let x = ends ks s p e w in
      first-arg-step ks p q (numbered p s) (clash a.here b.first.0) (omega (arith, w, longer s)) x.inside (sum_done ks p q k (numbered p s) (back s p q k r e w (z.0, z.1)) x.here z.2 z.3)
  back (next_arg l s) p q k r e w z =
      let x = ends ks l p e refl in let y = ends ks (next_arg l s) p e w in let h : q ≡ p + width l + 1 + width s = omega (arith, w, onto-length l (k_comma ∷ onto s [])) in
      next-arg-step ks p q (p + width l) (numbered p l) (numbered (p + width l + 1) s) (back l p (p + width l) k_comma (onto s (k ∷ r)) e refl (refl, refl, refl, refl)) x.here (omega (arith, h)) y.inside
      (sum_done ks (p + width l + 1) q k (numbered (p + width l + 1) s) (back s (p + width l + 1) q k r x.next h (z.0, z.1)) y.here z.2 z.3)
  back (factor o) p q k r e w z = let x = ends ks o p e w in factor-step ks p q (numbered p o) (omega (arith, w, operand-longer o)) x.inside (back o p q k r e w z)
  back (times product t o) p q k r e w z =
      let x = ends ks t p e refl in let y = ends ks (times product t o) p e w in let h : q ≡ p + width t + 1 + width o = omega (arith, w, onto-length t (k_times ∷ onto o [])) in
      times-step ks p q (p + width t) (numbered p t) (numbered (p + width t + 1) o) (back t p (p + width t) k_times (onto o (k ∷ r)) e refl refl) x.here (omega (arith, h)) y.inside (back o (p + width t + 1) q k r x.next h z)
  back (addend t) p q k r e w z = let x = ends ks t p e w in addend-step ks p q (numbered p t) (omega (arith, w, term-longer t)) x.inside (back t p q k r e w z.0) (clash x.here z.1)
  back (plus s t) p q k r e w z =
      let x = ends ks s p e refl in let y = ends ks (plus s t) p e w in let h : q ≡ p + width s + 1 + width t = omega (arith, w, onto-length s (k_plus ∷ onto t [])) in
      plus_step ks p q (p + width s) (numbered p s) (numbered (p + width s + 1) t) (back s p (p + width s) k_plus (onto t (k ∷ r)) e refl (refl, refl)) x.here (omega (arith, h)) y.inside (back t (p + width s + 1) q k r x.next h z.0) (clash y.here z.1)
  back (minus s t) p q k r e w z =
      let x = ends ks s p e refl in let y = ends ks (minus s t) p e w in let h : q ≡ p + width s + 1 + width t = omega (arith, w, onto-length s (k_minus ∷ onto t [])) in
      minus-step ks p q (p + width s) (numbered p s) (numbered (p + width s + 1) t) (back s p (p + width s) k_minus (onto t (k ∷ r)) e refl (refl, refl)) x.here (omega (arith, h)) y.inside (back t (p + width s + 1) q k r x.next h z.0) (clash y.here z.1)
  back (cmp_mark o) p q k r e w z = let a = ahead ks p e in cmp_step ks o p a.here ∙ ap (ok (cmp_mark o)) (sym w)
  back always p q k r e w z = let a = ahead ks p e in always-step ks p q a.here a.inside w
  back never p q k r e w z = let a = ahead ks p e in never-step ks p q a.here a.inside w
  back (compare a (cmp_mark o) b) p q k r e w z =
      let v = begins a (cmp_kind o ∷ onto b (k ∷ r)) in let u = ahead ks p (e ∙ v.is) in let c = cmp-quiet o in
      let x = ends ks a p e refl in let y = ends ks (compare a (cmp_mark o) b) p e w in let h : q ≡ p + width a + 1 + width b = omega (arith, w, onto-length a (cmp_kind o ∷ onto b [])) in
      compare-step ks p q (p + width a) (numbered p a) (numbered (p + width a + 1) b) o (clash u.here v.first.1) (clash u.here v.first.2) u.inside (omega arith)
      (sum_done ks p (p + width a) (cmp_kind o) (numbered p a) (back a p (p + width a) (cmp_kind o) (onto b (k ∷ r)) e refl (c.0, c.1)) x.here c.2 c.3) x.here
      (sum_done ks (p + width a + 1) q k (numbered (p + width a + 1) b) (back b (p + width a + 1) q k r x.next h (z.0, z.1)) y.here z.2 z.3)
  back (one_atom a) p q k r e w z = let x = ends ks a p e w in one-atom-step ks p q (numbered p a) (omega (arith, w, atom-longer a)) x.inside (back a p q k r e w z)
  back (both c a) p q k r e w z =
      let x = ends ks c p e refl in let y = ends ks (both c a) p e w in let h : q ≡ p + width c + 1 + width a = omega (arith, w, onto-length c (k_and ∷ onto a [])) in
      both-step ks p q (p + width c) (numbered p c) (numbered (p + width c + 1) a) (back c p (p + width c) k_and (onto a (k ∷ r)) e refl (refl, refl, refl, refl)) x.here (omega (arith, h)) y.inside (back a (p + width c + 1) q k r x.next h z)
  back (one_conj c) p q k r e w z = let x = ends ks c p e w in one-conj-step ks p q (numbered p c) (omega (arith, w, conj-longer c)) x.inside (back c p q k r e w (z.0, z.1, z.2, z.3)) (clash x.here z.4)
  back (either b c) p q k r e w z =
      let x = ends ks b p e refl in let y = ends ks (either b c) p e w in let h : q ≡ p + width b + 1 + width c = omega (arith, w, onto-length b (k_or ∷ onto c [])) in
      either_step ks p q (p + width b) (numbered p b) (numbered (p + width b + 1) c) (back b p (p + width b) k_or (onto c (k ∷ r)) e refl (refl, refl, refl, refl, refl)) x.here (omega (arith, h)) y.inside (back c (p + width b + 1) q k r x.next h (z.0, z.1, z.2, z.3)) (clash y.here z.4)
  back (empty i) p q k r e w z = let a = ahead ks p e in empty-step ks p q a.here a.inside w
  back (declare i) p q k r e w z = let a = ahead ks p e in let b = ahead ks (p + 1) a.next in let c = ahead ks (p + 1 + 1) b.next in declare-step ks p q a.here a.inside b.here c.here (omega (arith, w))
  back (declare_free i) p q k r e w z = let a = ahead ks p e in let b = ahead ks (p + 1) a.next in let c = ahead ks (p + 1 + 1) b.next in let d = ahead ks (p + 1 + 1 + 1) c.next in free_step ks p q a.here a.inside b.here c.here d.here (omega (arith, w))
  back (declare_own i a b) p q k r e w z =
      let x = ahead ks p e in let y = ahead ks (p + 1) x.next in let v = ahead ks (p + 1 + 1) y.next in
      let l = end-ahead a (p + 1 + 1 + 1) v.next in let o = ahead ks l.next l.rest in
      let h = end-ahead b (l.next + 1) o.next in let s = ahead ks h.next h.rest in
      own-step ks p q l.next h.next a b x.here x.inside y.here v.here l.stands o.here h.stands s.here (omega (arith, w, own-width i a b, l.counts, h.counts))
  back (assign i s) p q k r e w z =
      let a = ahead ks p e in let b = ahead ks (p + 1) a.next in let x = ends ks s (p + 1 + 1) b.next refl in
      subst (λ (v : ℕ). Stmt ks (assign p (numbered v s)) p q) (two p)
      (assign-step ks p q (p + 1 + 1 + width s) (numbered (p + 1 + 1) s) a.here b.here (omega (arith, x.inside)) (sum_done ks (p + 1 + 1) (p + 1 + 1 + width s) k_semi (numbered (p + 1 + 1) s) (back s (p + 1 + 1) (p + 1 + 1 + width s) k_semi (k ∷ r) b.next refl (refl, refl)) x.here refl refl) x.here (omega (arith, w, onto-length s (k_semi ∷ []))))
  back (eval s) p q k r e w z =
      let x = ends ks s p e refl in
      eval-step ks p q (p + width s) (numbered p s) (starts s k_semi (k ∷ r) refl) e (omega (arith, x.inside)) (sum_done ks p (p + width s) k_semi (numbered p s) (back s p (p + width s) k_semi (k ∷ r) e refl (refl, refl)) x.here refl refl) x.here (omega (arith, w, onto-length s (k_semi ∷ [])))
  back (block i b) p q k r e w z = let a = ahead ks p e in block-step ks p q (numbered (p + 1) b) a.here a.inside (back b (p + 1) q k r a.next (omega (arith, w)) tt)
  back (if_else i c s t) p q k r e w z =
      let a = ahead ks p e in let b = ahead ks (p + 1) a.next in let m = p + 1 + 1 + width c in let x = ends ks c (p + 1 + 1) b.next refl in
      let y = ends ks s (m + 1) x.next refl in
      let h : q ≡ m + 1 + width s + 1 + width t = omega (arith, w, onto-length c (k_close ∷ onto s (k_else ∷ onto t [])), onto-length s (k_else ∷ onto t [])) in
      subst (λ (v : ℕ). Stmt ks (if_else p (numbered v c) (numbered (v + width c + 1) s) (numbered (v + width c + 1 + width s + 1) t)) p q) (two p)
      (if-step ks p q (m + 1) (m + 1 + width s) (numbered (p + 1 + 1) c) (numbered (m + 1) s) (numbered (m + 1 + width s + 1) t) a.here a.inside
      (guard-step ks (p + 1) m (numbered (p + 1 + 1) c) b.here b.inside (back c (p + 1 + 1) m k_close (onto s (k_else ∷ onto t (k ∷ r))) b.next refl (refl, refl, refl, refl, refl)) x.here) (omega arith)
      (back s (m + 1) (m + 1 + width s) k_else (onto t (k ∷ r)) x.next refl tt) (omega arith) y.here (back t (m + 1 + width s + 1) q k r y.next h tt))
  back (while i c s) p q k r e w z =
      let a = ahead ks p e in let b = ahead ks (p + 1) a.next in let m = p + 1 + 1 + width c in let x = ends ks c (p + 1 + 1) b.next refl in
      let h : q ≡ m + 1 + width s = omega (arith, w, onto-length c (k_close ∷ onto s [])) in
      subst (λ (v : ℕ). Stmt ks (while p (numbered v c) (numbered (v + width c + 1) s)) p q) (two p)
      (while-step ks p q (m + 1) (numbered (p + 1 + 1) c) (numbered (m + 1) s) a.here a.inside
      (guard-step ks (p + 1) m (numbered (p + 1 + 1) c) b.here b.inside (back c (p + 1 + 1) m k_close (onto s (k ∷ r)) b.next refl (refl, refl, refl, refl, refl)) x.here) (omega arith)
      (back s (m + 1) q k r x.next h tt))
  back (return i s) p q k r e w z =
      let a = ahead ks p e in let x = ends ks s (p + 1) a.next refl in
      return-step ks p q (p + 1 + width s) (numbered (p + 1) s) a.here (omega (arith, x.inside)) (sum_done ks (p + 1) (p + 1 + width s) k_semi (numbered (p + 1) s) (back s (p + 1) (p + 1 + width s) k_semi (k ∷ r) a.next refl (refl, refl)) x.here refl refl) x.here (omega (arith, w, onto-length s (k_semi ∷ [])))
  back (fail i) p q k r e w z = let a = ahead ks p e in let b = ahead ks (p + 1) a.next in fail-step ks p q a.here a.inside b.here (omega (arith, w))
  back no_stmts p q k r e w z = let x = ends ks no_stmts p e w in no-stmts-step ks p q x.inside (omega (arith, w))
  back (more_stmts l s) p q k r e w z =
      let b = begins s (k ∷ r) in let x = ends ks l p (e ∙ ap (onto l) b.is) refl in let y = ends ks (more_stmts l s) p e w in
      let h : q ≡ p + width l + width s = omega (arith, w, onto-length l (onto s [])) in
      more-stmts-step ks p q (p + width l) (numbered p l) (numbered (p + width l) s) (back l p (p + width l) b.one b.more (e ∙ ap (onto l) b.is) refl tt) (clash x.here b.first) (omega (arith, h, stmt-longer s)) y.inside (back s (p + width l) q k r (past ks l p e) h tt)
  back (braced l i) p q k r e w z = let x = ends ks l p e refl in braced-step ks p q (p + width l) (numbered p l) (back l p (p + width l) k_rbrace (k ∷ r) e refl tt) x.here (omega (arith, w, onto-length l (k_rbrace ∷ [])))
  back no_params p q k r e w z = let a = ahead ks p e in no-params-step ks p q a.here a.inside w
  back (some_params l) p q k r e w z = let x = ends ks l p e refl in some-params-step ks p q (p + width l) (numbered p l) (back l p (p + width l) k_close (k ∷ r) e refl tt) x.here (omega (arith, w, onto-length l (k_close ∷ [])))
  back (first_param i) p q k r e w z = let a = ahead ks p e in let b = ahead ks (p + 1) a.next in let x = ends ks (first_param i) p e w in first-param-step ks p q a.here b.here x.inside (omega (arith, w))
  back (next_param l i) p q k r e w z =
      let x = ends ks l p e refl in let a = ahead ks (p + width l + 1) x.next in let b = ahead ks (p + width l + 1 + 1) a.next in let y = ends ks (next_param l i) p e w in
      subst (λ (v : ℕ). ParamList ks (next_param (numbered p l) v) p q) (two (p + width l))
      (next-param-step ks p q (p + width l) (numbered p l) (back l p (p + width l) k_comma (k_int ∷ k_name ∷ k ∷ r) e refl tt) x.here a.here b.here y.inside (omega (arith, w, onto-length l (k_comma ∷ k_int ∷ k_name ∷ []))))
  back (function i ps b) p q k r e w z =
      let a = ahead ks p e in let o = ahead ks (p + 1) a.next in let u = ahead ks (p + 1 + 1) o.next in let m = p + 1 + 1 + 1 + width ps in let x = ends ks ps (p + 1 + 1 + 1) u.next refl in
      let h : q ≡ m + 1 + width b = omega (arith, w, onto-length ps (k_lbrace ∷ onto b [])) in
      subst (λ (v : ℕ). Fun ks (function (p + 1) (numbered v ps) (numbered (v + width ps + 1) b)) p q) (three p)
      (function-step ks p q m (numbered (p + 1 + 1 + 1) ps) (numbered (m + 1) b) o.here u.here a.inside (back ps (p + 1 + 1 + 1) m k_lbrace (onto b (k ∷ r)) u.next refl tt) (omega (arith, params-longer ps)) x.here (back b (m + 1) q k r x.next h tt))
  back no_funs p q k r e w z = let x = ends ks no_funs p e w in no-funs-step ks p q x.inside (omega (arith, w))
  back (more_funs l (function i ps b)) p q k r e w z =
      let x = ends ks l p e refl in let y = ends ks (more_funs l (function i ps b)) p e w in
      let h : q ≡ p + width l + width (function i ps b) = omega (arith, w, onto-length l (onto (function i ps b) [])) in
      more-funs-step ks p q (p + width l) (numbered p l) (numbered (p + width l) (function i ps b)) (back l p (p + width l) k_int (k_name ∷ k_open ∷ onto ps (k_lbrace ∷ onto b (k ∷ r))) e refl tt) x.here (omega (arith, h)) y.inside (back (function i ps b) (p + width l) q k r (past ks l p e) h tt)

  -- a whole text
  pub read_back : (t : Tree prog) → ks ≡ onto t (k_end ∷ []) → (d : ℕ) → 8 * length ks + 2 ≤ d → read_text ks d ≡ ok (numbered 0 t) (width t)
  unfolding read_text more_prog
  read_back t e d f =
      let w : width t ≡ 0 + width t = omega arith in let x = ends ks t 0 e w in let g = back t 0 (width t) k_end [] e w tt d (omega arith) in
      then_ok _ (g.is ∙ no _ _ (clash x.here refl)) ∙ yes _ _ x.here
