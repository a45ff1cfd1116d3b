-- No command shifts more cells than there are.
use Rattle.std.proofs.Common.{◌≡◌, ℕ, ◌+◌, ◌-◌, ◌*◌, ◌≤◌, Bool, true, false, List, [], ◌∷◌, if◌then◌else◌, nat_lt, nat_eq, refl, ◌∙◌, ap, arith, mul_comm, mul-le-mul_left, mul-le-mul_right, is_none}
use Rattle.grid_deferred.proofs.Common.{row_count, col_count, image_rows, image_cols, Edit, pop, delete_at, delete_range, expand, prepend, CommandValue, size, lines, line_count, line_width, pad_refusal, step_rows, rows_added_shift, rows_taken_shift, delete_rows_shift, axis_order, edit_shift, base_axis, reverses_lines, mirrored_if, shift_through, pending_after, shown_shift, deferred_shift, edit_allowance, step_allowance, run_allowance}
use Rattle.grid_base.specs.declared.words.Symmetry.{Symmetry}
use Rattle.grid_base.specs.declared.words.Symmetry.TheVariants.{Identity, Transpose, RotateLeft, RotateRight, AntiTranspose}
use Rattle.grid_base.specs.declared.order.Order.{Order}
use Rattle.grid_base.specs.declared.order.Order.TheVariants.{RowMajor, ColumnMajor}
use Rattle.grid_commands.specs.declared.command.Axis.{Axis}
use Rattle.grid_commands.specs.declared.command.Axis.TheVariants.{Row, Col}

if_some : (b : Bool) (k c : ℕ) → k ≤ c → (if b then k else 0) ≤ c
if_some true k c h = h
if_some false k c h = omega arith

if_none : (b : Bool) (k c : ℕ) → k ≤ c → (if b then 0 else k) ≤ c
if_none true k c h = omega arith
if_none false k c h = h

added_within : (o : Order) (m n i k : ℕ) → rows_added_shift o m n i k ≤ m * n
added_within RowMajor m n i k = let a : (m - i) * n ≤ m * n = mul-le-mul_right n (omega arith) in if_none (nat_eq k 0) _ _ a
added_within ColumnMajor m n i k = if_none (nat_eq k 0) _ _ (omega (arith, mul_comm n m))

taken_within : (o : Order) (m n i k : ℕ) → rows_taken_shift o m n i k ≤ m * n
taken_within RowMajor m n i k = mul-le-mul_right n (omega arith)
taken_within ColumnMajor m n i k =
    let a : n * (m - k) ≤ n * m = mul-le-mul_left n (omega arith) in
    omega (arith, a, mul_comm n m)

deleted_within : (o : Order) (m n i k : ℕ) → delete_rows_shift o m n i k ≤ m * n
deleted_within o m n i k = if_none (nat_eq k 0) _ _ (if_none (nat_lt m (i + k)) _ _ (taken_within o m n i k))

line_cells : (a : Axis) (m n : ℕ) → line_count a m n * line_width a m n ≡ m * n
line_cells Row m n = refl
line_cells Col m n = mul_comm n m

-- an image has as many cells
pub image_cells : (s : Symmetry) (m n : ℕ) → image_rows s m n * image_cols s m n ≡ m * n
image_cells Transpose m n = mul_comm n m
image_cells RotateLeft m n = mul_comm n m
image_cells RotateRight m n = mul_comm n m
image_cells AntiTranspose m n = mul_comm n m
image_cells Identity m n = refl
image_cells s m n = refl

module _ {T : Type 0} where
  edit_within : (o : Order) (count width : ℕ) (e : Edit T) → edit_shift o count width e ≤ edit_allowance e (count * width)
  edit_within o count width (expand k) = if_some (is_none (pad_refusal count width k)) _ _ (if_none (nat_eq count 0) _ _ (added_within o count width count k))
  edit_within o count width (prepend k) = if_some (is_none (pad_refusal count width k)) _ _ (if_none (nat_eq count 0) _ _ (added_within o count width 0 k))
  edit_within o count width (delete_at i) = deleted_within o count width i 1
  edit_within o count width (delete_range i k) = deleted_within o count width i k
  edit_within o count width pop = omega arith
  edit_within o count width e = omega arith

  allowance-mirrored : (b : Bool) (count : ℕ) (e : Edit T) (cells : ℕ) → edit_allowance (mirrored_if b count e) cells ≡ edit_allowance e cells
  allowance-mirrored false count e cells = refl
  allowance-mirrored true count pop cells = refl
  allowance-mirrored true count e cells = refl

  lines_within : (s : Symmetry) (a : Axis) (e : Edit T) (o : Order) (m n : ℕ) → shift_through s (lines a e) o m n ≤ edit_allowance e (m * n)
  lines_within s a e o m n =
      let b = base_axis s a in
      let f = mirrored_if (reverses_lines s a) (line_count b m n) e in
      let h : edit_shift (axis_order b o) (line_count b m n) (line_width b m n) f ≤ edit_allowance f (line_count b m n * line_width b m n) = edit_within (axis_order b o) (line_count b m n) (line_width b m n) f in
      let same : edit_allowance f (line_count b m n * line_width b m n) ≡ edit_allowance e (m * n) =
      allowance-mirrored (reverses_lines s a) (line_count b m n) e (line_count b m n * line_width b m n) ∙ ap (edit_allowance e) (line_cells b m n) in
      omega (arith, h, same)

  step_within : (s : Symmetry) (x : CommandValue T) (o : Order) (m n : ℕ) → shift_through s x o m n ≤ step_allowance x (m * n)
  step_within s (lines a e) o m n = lines_within s a e o m n
  step_within s size o m n = omega arith
  step_within s x o m n = omega arith

  shown_within : (s : Symmetry) (x : CommandValue T) (o : Order) (t : List (List T)) → shown_shift s x o t ≤ step_allowance x (row_count t * col_count t)
  shown_within s x o t =
      let h = step_within s x o (image_rows s (row_count t) (col_count t)) (image_cols s (row_count t) (col_count t)) in
      let same = ap (step_allowance x) (image_cells s (row_count t) (col_count t)) in
      omega (arith, h, same)

  -- a deferred run shifts no more than its allowance
  pub run_within : (d : T) (o : Order) (xs : List (CommandValue T)) (s : Symmetry) (t : List (List T)) → deferred_shift d o xs s t ≤ run_allowance d xs t
  run_within d o [] s t = omega arith
  run_within d o (x ∷ xs) s t = omega (arith, shown_within s x o t, run_within d o xs (pending_after x s) (step_rows d x t))
