-- A kit of proof rules for functions over a lent slice of structs, `&[S]` and `&mut [S]`, whose proof is a walk of the code, a statement at a time: one that the borrow checker does not cover, or that is better read beside its code.
-- With this kit a walk is one line a statement of the SOURCE, and a proof 30 to 70 lines. No rule mentions a type of ours: any crate cites `Rattle.walks.proofs.Kit`.
--
-- THE WALK, BY A SMALL EXAMPLE. `next` and `place_of` are functions by value, whose contracts are equations; `next_of`, `place_of`, `zero_pair`, `bumped` and `said` are definitions in `specs/`.
--
--     pub fn bump(rows: &mut [Pair], i: usize) -> u8
--         ensures { (rows.new ≡ bumped rows.old i) × (result ≡ said rows.old i) }
--     {
--         if i < rows.len() {
--             let d = next(rows[i]);
--             rows[i] = d;
--             return place_of(d);
--         }
--         255
--     }
--
-- 1. The struct as an element, and each callee with what it gives, once a crate, as proofs/Callees.antt. T and L are the generated `Rattle.pairs.specs.contracts.Pair` and `Rattle.pairs.proofs.Pair.TheLaws`; f is `Rattle.pairs.specs.contracts.next`, and f' and f'' are `Rattle.pairs.proofs.next.Symbol` and `..next.Met`; `id⊢` is of `base.Logic`:
--
--     abbrev pub Row : Elem
--     Row = struct_of T.the_type L.the_laws L.mir refl L.the_copy L.the_plain
--
--     abbrev pub next : Value (Row ∷ []) Row
--     next = record {
--       def = record { name = f'.name; code = f'.code; clauses = f.clauses; met = f''.met };
--       gives = λ a. next_of a.0;
--       tells = λ 𝓤 𝓛 mem run a. (tt, (λ _. id⊢ 𝓤 _), (λ r ws. id⊢ 𝓤 _));
--     }
--
--    `tells` is the same for each function with no `requires` and one equation for its result. A function that takes a `&[S]` first is a `Look`, one that takes a `&mut [S]` first a `Change`, which also says what the list is then: their `tells` take the lifetimes and the slice too, `λ 𝓤 𝓛 mem run κs x a. ..`, and a `Change` has one clause, `(rows.new ≡ ..) × (result ≡ ..)`.
--
-- 2. The function, in proofs/bump/Proof.antt, where `this` is `Rattle.pairs.specs.contracts.bump`, and `stated` and `code` are the `Statement` and the `Code` of `Rattle.pairs.proofs.bump`: a kind for each parameter (0 is the number of its lifetime), the contract's instance F (its y: lifetimes, shares, bounds, arguments, their machine values, ghost), and what is held, a hold for each parameter:
--
--     abbrev params : Params this.ended
--     params = (mutable Row 0 tt, (by_value (num w64), tt))
--     module _ {M : Type 1} (S : Site M) (κ : Lft) (q : Share) (x : MutBor (List Pair)) (i : ℕ) where
--       abbrev F : Function S
--       F = record { T = this.ended; ps = params; c = this.clauses S.𝓛 S.mem S.run; y = (((κ, tt), (q, tt), tt, (x, (i, tt)), (mut_slice_vals x, (vint w64 i ∷ [], tt))), tt) }
--       abbrev Γ : List Pair → List Hold
--       Γ ys = mut κ q Row x ys ∷ val (num w64) i ∷ []
--
-- 3. The walk, beside the function's MIR (`rt check --generated DIR --start bump` writes it): locals have their MIR numbers, and each `(refl, tt, tt)` is about the MIR and always the same. `ys` stands for `x.now`, and `d` for `next_of (get_or ys i zero_pair)`:
--
--       walk : Meets S next.def → Meets S place_of.def → length x.now < 2 ^ 64 → Walk S F code.function (slice_val x.ref_ptr (length x.now) ∷ vint w64 i ∷ []) (Γ x.now)
--       walk known known' fits bs =
--           ifs_below ! i (length ys) (refl, tt, tt) fits                                                -- if _2 < rows.len()
--           (λ l. reads_mut ! Row 0 zero_pair (refl, tt, tt, tt) refl l (λ g.                            -- _8 = rows[_2]
--           calls_to S ! next (get_or ys i zero_pair, tt) known (g, tt) ((tt, tt), refl, refl) (λ g'.    -- _3 = next(_8)
--           writes ! Row 0 zero_pair d (refl, tt, tt, tt) (tt, refl) l g' ▸                              -- rows[_2] = _3
--           calls_to S ! place_of (d, tt) known' (g', tt) ((tt, tt), refl, refl) (λ g''.                 -- _0 = place_of(_3)
--           returns ! F (num w8) d.at d.at (set ys i d, (tt, tt)) _ (tt, tt, refl, refl, refl, refl) g'' (length-set ys i d, (tt, tt)) (bump_in ys i l)))))
--           (λ le. sets ! tt (tt, record { fits = omega arith }) ▸                                       -- _0 = 255
--           returns ! F (num w8) 255 255 (ys, (tt, tt)) _ (tt, tt, refl, refl, refl, refl) (refl, omega arith) (refl, (tt, tt)) (bump_out ys i le))
--
--    `returns` takes the result's type, the result (twice), the last lists, that the result has a machine value, that each list is as long as it was, and the `ensures`, one clause: here two lemmas on lists, which say nothing of code.
--
-- 4. The statement: `always` for no `requires`, `needs 𝓤 φ _ (λ l. ..)` for one clause φ. `are` says that each argument has a machine value: `are.0.0.1.0` that the count of the slice, parameter 0, fits, and `are.1.0.1` that parameter 1 does. `tables_of` is of `contract.Running`:
--
--     pub bump_spec : {M : Type 1} → stated.statement M
--     unfolding tables_of
--     bump_spec 𝓤 𝓛 𝓜 𝓡 wired =
--         let S = site 𝓛 𝓜 𝓡 in
--         closes 𝓛 𝓜 𝓡 this.ended params (this.clauses 𝓛 𝓜.mem 𝓡.returns) this.Key.name code.function (code.unfolded 𝓤 𝓛.H 𝓜 𝓡 wired) (λ κs qs bounds a g are typed.
--         always 𝓤 (walks S (Γ S κs.0 qs.0 a.0 a.1.0 a.0.now) code.function _ _ typed (walk S κs.0 qs.0 a.0 a.1.0
--         (knows 𝓛 𝓜 𝓡 next.def (code.calls-pairs::next 𝓡.env wired)) (knows 𝓛 𝓜 𝓡 place_of.def (code.calls-pairs::place_of 𝓡.env wired)) are.0.0.1.0)))
--
-- WHICH RULE. `_i = ..`: `sets`. A branch: `ifs_below` (`i < n`), `ifs`. A loop: `loops`, then `whiles_below` or `whiles` at its head and `again` for its last statement; it carries a state of your choice, whose measure falls.
-- An element: `reads` (of `&[S]`), `reads_mut`, `writes`, and `reads_byte`, `writes_byte` of bytes. A call: of a `Value` `calls_to`; of a `Look` `looks_shr` or `looks_mut`, as the slice at hand is a `&[S]` or a `&mut [S]`; of a `Change` `changes`; a `&mut` handed on and not used again, `calls_holding`, and its kind is `given_up`; a part of a local array, `calls_part`. For another signature: a rule over `called` (Calls.antt), as those are.
-- A `&[S]` that is passed on is an operand, as `_1`. A `&mut [S]` is lent again by two statements before the call, its pointer and the pair of that and the count, `sets ! (tt, tt) (tt, tt) ▸ sets ! (tt, (tt, tt)) (tt, (tt, (record { fits = fits }, tt))) ▸`.
-- A local is forgotten with `forgets`, a hold let go with `drops` and a plain one made anew with `makes`.
--
-- THE MODULES, from the ground up.
pub mod Locals
pub mod Holds
pub mod Plain
pub mod Walk
pub mod Slices
pub mod Below
pub mod Calls
pub mod Hand
pub mod Lend
pub mod Show
pub mod Arrays
pub mod Close
pub mod Callees
pub mod Kit
