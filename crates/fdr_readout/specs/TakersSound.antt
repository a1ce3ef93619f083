-- The two takers keep the laws of takers: the one that writes lines, and the one that counts. What makes a type a taker names
-- this, and a contract names nothing of its own crate's proofs/. So it is here, by lemmas of the crates below.
use Rattle.std.proofs.Common.{◌≡◌, ℕ, ◌+◌, ◌%◌, ◌^◌, List, [], ◌++◌, Option, length, sym, ap, ◌∙◌, subst, add_assoc, length-append, add-zero}
use Rattle.std.specs.Prelude.{filter, sum_by}
use Rattle.std.specs.List.{flat_map}
use Rattle.std.proofs.lemmas.List.Concat.{flat_map-append}
use Rattle.std.proofs.lemmas.List.Elements.{filter_map-append, filter-append}
use Rattle.std.proofs.lemmas.List.Sums.{sum_by-append}
use Rattle.std.proofs.Math.Nat.{mod-add-mod}
use Rattle.fdr_io.specs.Output.{Emits, EmitsPart}
use Rattle.fdr_io.proofs.OutputSteps.{Emits-nil, Emits-then, EmitsPart-then, EmitsPart-longer}
use Rattle.fdr_table.specs.Rows.{TableRows}
use Rattle.fdr_readout.specs.declared.tally.Summary.{Summary}
use Rattle.fdr_readout.specs.Entries.{Entry, entry_lines, row_of_entry, is_frame_entry}
use Rattle.fdr_readout.specs.Summary.{Tallies, rows_among, value_bits}
use Rattle.fdr_readout.specs.Takers.{TakerLaws}

-- The taker that writes lines keeps the laws of takers.
pub text_laws : {O : Type 0} (written : O → Option (List ℕ)) → TakerLaws
    (λ (t : TableRows) (a : List ℕ) (o : O) (b : List ℕ) (p : O) (xs : List Entry). Emits (written o) (written p) a b (flat_map (entry_lines t) xs))
    (λ (t : TableRows) (a : List ℕ) (o p : O) (xs : List Entry). EmitsPart (written o) (written p) a (flat_map (entry_lines t) xs))
text_laws written = record {
  nothing = λ t a o. Emits-nil (written o) a;
  then = λ t a b c o p q xs ys first second.
      subst (λ (out : List ℕ). Emits (written o) (written q) a c out) (sym (flat_map-append (entry_lines t) xs ys))
      (Emits-then (written o) (written p) (written q) a b c _ _ first second);
  fails_then = λ t a b o p q xs ys first part.
      subst (λ (out : List ℕ). EmitsPart (written o) (written q) a out) (sym (flat_map-append (entry_lines t) xs ys))
      (EmitsPart-then (written o) (written p) (written q) a b _ _ first part);
  fails_before = λ t a o p xs ys part.
      subst (λ (out : List ℕ). EmitsPart (written o) (written p) a out) (sym (flat_map-append (entry_lines t) xs ys))
      (EmitsPart-longer (written o) (written p) a _ _ part);
}

-- numbers that grow one after another, modulo 2 ^ 64
grow_then : (a b c x y : ℕ) → b % 2 ^ 64 ≡ (a + x) % 2 ^ 64 → c % 2 ^ 64 ≡ (b + y) % 2 ^ 64 → c % 2 ^ 64 ≡ (a + (x + y)) % 2 ^ 64
grow_then a b c x y first second =
    second ∙ sym (mod-add-mod b (2 ^ 64) y) ∙ ap (λ n. (n + y) % 2 ^ 64) first ∙ mod-add-mod (a + x) (2 ^ 64) y ∙ ap (λ n. n % 2 ^ 64) (add_assoc a x y)

tallies_then : (a b c : Summary) (xs ys : List Entry) → Tallies a b xs → Tallies b c ys → Tallies a c (xs ++ ys)
tallies_then a b c xs ys first second = record {
  frames = subst (λ n. c.frames % 2 ^ 64 ≡ (a.frames + n) % 2 ^ 64)
      (sym (ap length (filter-append is_frame_entry xs ys) ∙ length-append (filter is_frame_entry xs) (filter is_frame_entry ys)))
      (grow_then a.frames b.frames c.frames _ _ first.frames second.frames);
  rows = subst (λ n. c.rows % 2 ^ 64 ≡ (a.rows + n) % 2 ^ 64)
      (sym (ap length (filter_map-append row_of_entry xs ys) ∙ length-append (rows_among xs) (rows_among ys)))
      (grow_then a.rows b.rows c.rows _ _ first.rows second.rows);
  sum = subst (λ n. c.sum % 2 ^ 64 ≡ (a.sum + n) % 2 ^ 64)
      (sym (ap (sum_by value_bits) (filter_map-append row_of_entry xs ys) ∙ sum_by-append value_bits (rows_among xs) (rows_among ys)))
      (grow_then a.sum b.sum c.sum _ _ first.sum second.sum);
  fits = λ fits. second.fits (first.fits fits);
}

same : (n : ℕ) → n % 2 ^ 64 ≡ (n + 0) % 2 ^ 64
same n = ap (λ k. k % 2 ^ 64) (sym (add-zero n))

tallies_nothing : (a : Summary) → Tallies a a []
tallies_nothing a = record { frames = same a.frames; rows = same a.rows; sum = same a.sum; fits = λ fits. fits }

-- The taker that counts keeps the laws of takers.
pub tally_laws : {O : Type 0} → TakerLaws (λ (t : TableRows) (a : Summary) (o : O) (b : Summary) (p : O) (xs : List Entry). Tallies a b xs)
    (λ (t : TableRows) (a : Summary) (o p : O) (xs : List Entry). ⊥)
tally_laws = record {
  nothing = λ t a o. tallies_nothing a;
  then = λ t a b c o p q xs ys first second. tallies_then a b c xs ys first second;
  fails_then = λ t a b o p q xs ys first failed. failed;
  fails_before = λ t a o p xs ys failed. failed;
}
