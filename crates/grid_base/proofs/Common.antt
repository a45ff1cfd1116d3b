-- The names that most proofs cite, passed on from one place. Declares nothing. Lemmas that
-- definitions cite import none of it.
pub use Rattle.core.proofs.slice.Lists.{hd}
pub use Rattle.core.proofs.slice.Writes.{same_lists}
pub use Rattle.core.specs.Mem.Slots.{SamePlaces}
pub use Rattle.core.specs.Mem.Slots.Ownership.{Filled, SameOutside}
pub use Rattle.grid_base.specs.Append.{AppendsEach}
unfoldable pub use Rattle.grid_base.specs.Blocks.{swapped_forward, swapped_back}
pub use Rattle.grid_base.specs.Blocks.{BlocksExchanged, PartReversed, BlocksSwapped, BlockTaken}
pub use Rattle.grid_base.specs.Clones.{ClonesAreEqual}
pub use Rattle.grid_base.specs.ClosureCalls.{MapsThrough, MapsTo, PairsUp, CallableAtEach, CallableAtCells, CallableAtItems, CallableAtRefs, ReturnsAtCell, FailsFirst}
pub use Rattle.grid_base.specs.Flags.{flags_of, from_flags}
pub use Rattle.grid_base.specs.FlatLends.{written_from}
pub use Rattle.grid_base.specs.Gather.{items_of_each, last_of, before_last}
pub use Rattle.grid_base.specs.GridLineIterMut.{line_mut_rest}
pub use Rattle.grid_base.specs.GridValue.{HoldsSize, GridValue, FitsUsize, SameSizeAndOrder}
pub use Rattle.grid_base.specs.Groups.{Woven, Widened, Opened, TakenOut, Closed}
pub use Rattle.grid_base.specs.IndexedIterators.{GivesCells, GivesOwnedCells, GivesMutCells, IsCellAt}
pub use Rattle.grid_base.specs.Layout.{positions_of, lines_of}
pub use Rattle.grid_base.specs.LineCells.{cells_left}
pub use Rattle.grid_base.specs.Lines.{counted, line_cells}
pub use Rattle.grid_base.specs.Move.{of_move, word_image, IsNormalForm, ActAlike}
pub use Rattle.grid_base.specs.Order.{storage, flipped, place, table_of, CanCut}
unfoldable pub use Rattle.grid_base.specs.Positions.{positions}
pub use Rattle.grid_base.specs.Positions.{StandsAt, along}
pub use Rattle.grid_base.specs.InPlace.{Mirrored, TransposedInPlace}
pub use Rattle.grid_base.specs.Remaining.{IsRemaining, remaining}
pub use Rattle.grid_base.specs.Span.{IsSpan}
pub use Rattle.grid_base.specs.Strides.{strided, every, LinesInOrder, LinesInReverse, EachLineInOrder, EachLineInReverse}
unfoldable pub use Rattle.grid_base.specs.Symmetry.{act, symmetry_of}
pub use Rattle.grid_base.specs.Symmetry.{source_row, source_col, image_rows, image_cols, transposes, act_all, test_table, symmetries, order_after, IsThen, IsInverse, half, price, IsUndoneAt}
unfoldable pub use Rattle.grid_base.specs.Table.{tabulate, cells_by}
pub use Rattle.grid_base.specs.Table.{row_count, col_count, cell, IsTable, IsSize, transposed, row, concat_rows, InRange, with_cell, with_cell_of, exchanged}
pub use Rattle.grid_base.specs.Tally.{saturating_count, Counts, HasShifted}
pub use Rattle.grid_base.specs.Updated.{CallableFrom, UpdatedFrom}
pub use Rattle.std.proofs.Debugs.{shows_part_then, shows_from, displays_from, debug_items-take, shows_then}
pub use Rattle.std.proofs.Math.Bool.{and_comm, or_comm, and-true, or-false}
pub use Rattle.std.proofs.Math.Dec.{eqb-suc-zero}
pub use Rattle.std.proofs.Math.ListN.{get_or-eq_default}
pub use Rattle.std.proofs.Math.Nat.{add-mod_right, add-mul-mod_self_right, add-div_right, div-eq_of_lt, mul-mod_left, min-eq_left, min-le_left, add-mod_left, add-div_left, zero-div}
pub use Rattle.std.proofs.Math.Seq.{take-append_seam, drop-append_seam, get_or-append_seam, drop-append-add}
pub use Rattle.std.proofs.Output.{then_text_assoc}
pub use Rattle.std.proofs.iter.runs.Lists.{at_some}
pub use Rattle.std.proofs.iter.runs.Made.{at-is}
pub use Rattle.std.proofs.iter.runs.Sources.{from_front, from_back, as_is, as_is_back}
pub use Rattle.std.proofs.lemmas.Bool.{cases_lt, cases_eq, and_parts, or_parts, eqb-false, false_from_ne_true, cases_Bool, both_ways, cond-true, cond-false}
pub use Rattle.std.proofs.lemmas.Bool.Decides.{nat_tests, eqb_tells}
pub use Rattle.std.proofs.lemmas.Cmp.{nat_cmp_total}
pub use Rattle.std.proofs.lemmas.Fmt.{decimal_by_steps_wide, digits_decimal, digits_value-decimal, decimal_nonempty}
pub use Rattle.std.proofs.lemmas.Fn.{always_returns_same, answers_by, filter_same}
pub use Rattle.std.proofs.lemmas.Grind.{flat_map-append, common_steps, get_or-set_at}
pub use Rattle.std.proofs.lemmas.Int.{to_z-of_z, ints}
pub use Rattle.std.proofs.lemmas.Iterator.{YieldsList-from_slice}
pub use Rattle.std.proofs.lemmas.Iterator.Adapters.{YieldsList-from_vec}
pub use Rattle.std.proofs.lemmas.Iterator.Consumers.{YieldsList-end}
pub use Rattle.std.proofs.lemmas.Iterator.Search.{all_from_yields_List, any_from_yields_List}
pub use Rattle.std.proofs.lemmas.List.{length-reverse, reverse-append, take_more, length-map, map-set, get_or-map, drop_more, map-append, set-append_right, drop_all, get_or-reverse, drop_min, set_split, get_or_append_left, get_or_default, set-append_left, get_or_past, take_more_set, nil_from_length, length-replicate, get_or-replicate, take-map, flat_map_more, take-set-le, set-get_or, set_past, reverse-reverse, drop-map, drop-take}
pub use Rattle.std.proofs.lemmas.List.Edits.{length-swap, swapped_from_swap, swap_is, length-insert, Swapped, take-paste, map_over_more}
pub use Rattle.std.proofs.lemmas.List.Elements.{All-append, All-nil, same_from_all_zip, All-cons, All-head, All-tail, All-get_or, All-from_get_or, All-pop, length_all_zip, filter_agree, All-push, All-map, Contains-get_or}
pub use Rattle.std.proofs.lemmas.List.Folds.{list_all-map, list_all_at, length-prefix_len, list_all-append, list_any-append}
pub use Rattle.std.proofs.lemmas.List.FromFn.{fill_by_all, length-range_with_len, get_or-range_with_len}
pub use Rattle.std.proofs.lemmas.List.Sorted.{IsNonDecreasingBy-from_sort, answers_always, ranks_by, IsPermutation-map, IsPermutation-keeps, IsPermutation-sym, length_permutation, Contains-permutation}
pub use Rattle.std.proofs.lemmas.List.Splits.{slice_split_at, slice_split_none}
pub use Rattle.std.proofs.lemmas.List.Sums.{fold-append, sum_by-cons, prefix_len_passes, sum_by-set}
pub use Rattle.std.proofs.lemmas.Map.Keys.{ge_from_not_lt}
pub use Rattle.std.proofs.lemmas.Nat.{div_below, mod_below, div-mul-add, same_from_place, le-div, mul-add-lt, mod-mul-add, mul-le, mul-lt}
pub use Rattle.std.proofs.lemmas.Option.{slice_get_within, get_or_from_slice_get, slice_get-get_or, slice_get_past, unwrap_or-slice_get, slice_get_read, slice_get_cases, slice_get-map}
pub use Rattle.std.proofs.lemmas.Result.{on_ok_weaker, on_err_weaker, IfOk-weaker}
pub use Rattle.std.proofs.lemmas.Simd.{map-map, splat_is_map}
pub use Rattle.std.proofs.lemmas.Slice.Eq.{bytes_eq-Decides}
pub use Rattle.std.proofs.lemmas.Slice.Zip.{length-zip, AllZip-long, AllZip-map}
pub use Rattle.std.proofs.lemmas.Str.{NoCharPasses-byte, chars-encodes, chars-nil, chars_past_char, IsUtf8-past_char, cons_from_encodes, length-encode, len_utf8_bounds, encode_ascii, is_utf8-from_IsUtf8, IsUtf8-append, IsUtf8-encode, IsUtf8-nil, IsUtf8-string_bytes, IsUtf8-from_is_utf8}
pub use Rattle.std.proofs.lemmas.Str.Parse.{IsNumeralModel, numerals_by_value, tells_all_ascii_digits}
pub use Rattle.std.specs.BinaryHeap.{IsUpperBound, IsHeap}
pub use Rattle.std.specs.Bool.{beq, ⊤}
pub use Rattle.std.specs.Char.{IsScalar, is_ascii_digit}
pub use Rattle.std.specs.Cmp.{first_so, second_so, IsStrictWeakOrder, IsEquivalence}
unfoldable pub use Rattle.std.specs.Fmt.{padded_integral, char_count, digits}
pub use Rattle.std.specs.Fmt.{◌++?◌, debug_list, HasWritten, IsPlainFormatter, comma_space, debug_items, signed_decimal, styled_signed_decimal, format_spec}
pub use Rattle.std.specs.Fn.{FnReturnsAt, Mut, Called, CalledAtMut, AlwaysReturns}
pub use Rattle.std.specs.Int.{div_ceil, from_bool, w128}
pub use Rattle.std.specs.Iterator.{YieldsFirst, YieldsLast, YieldsFirstRef, YieldsLastRef, YieldsFirstBy, MakesProgress, at_most, Yields, SkipsThenYields}
pub use Rattle.std.specs.Iterator.Runs.{EveryRun, EachRunFrom, AllItems, ItemsMapTo}
pub use Rattle.std.specs.List.{FoldsTo, AllZip, range_with_len, cons_option, list_any, list_all, refill, length_refill, join_by, repeat, items_where_true, slice_split, position_or_len, each_same, prefix_len}
pub use Rattle.std.specs.List.Retain.{ReturnsInTurn, IsFiltered}
pub use Rattle.std.specs.List.Sorted.{IsStableBy, ties}
pub use Rattle.std.specs.Option.{option_or}
pub use Rattle.std.specs.Ordering.{ord_max, ordering_then}
pub use Rattle.std.specs.Simd.{first_chunks}
unfoldable pub use Rattle.std.specs.Str.{is_utf8}
pub use Rattle.std.specs.Str.{NonePass, NoCharPasses, all_ascii_digits}
pub use Rattle.std.specs.Str.Parse.{digits_value}
pub use Rattle.std.specs.Vec.Iter.{into_iter_items}
pub use borrow.Rule.Slice.PartMut.{mid_of, put_mid}
pub use denote.Param.Always.{always_mut, mut_next, mut_by}
pub use lib.ListN.{get_or-append}
pub use lib.Pointwise.{pointwise}
pub use lib.Seq.{get_or-append_right, paste}
pub use lib.Signed.{mag}
unfoldable pub use lib.Utf8.{encode}
pub use lib.Utf8.{scalars}
pub use mathlib.Core.HLevel.{is_prop→PathP}
pub use mathlib.Core.Path.{PathP}
