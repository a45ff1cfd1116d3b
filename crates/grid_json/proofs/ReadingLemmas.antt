-- The reading of a value, test by test, and of the value of a grid.
use Rattle.std.proofs.Common.{◌≡◌, ℕ, ◌^◌, ◌<◌, List, length, map, codes, All, refl, sym, ap, ◌∙◌, Option, Some, Ok}
use Rattle.grid_json.proofs.Common.{col_count, IsTable, storage, GridValue, length-map, map-map, Data, Items, number, unsigned, string, array, object, member, no_members, items_of, Content, written, contents, Parts, or_refuse, parts_of, cols_in, items_in, cells_from, order_in, order_name, cut, reading, value_of}
use Rattle.grid_base.specs.declared.order.Order.{Order}
use Rattle.grid_json.specs.declared.error.ReadError.TheVariants.{MissingField}
use Rattle.grid_json.proofs.TableLemmas.{table_map, storage_map, cut_of_table, cols_map}
use Rattle.grid_json.proofs.ReadLemmas.{read_back, order_back}
use Rattle.grid_json.specs.declared.error.Field.TheVariants as fields

pub all_tests : (read : Data → Option Content) (d : Data) (p : Parts) (c v : Data) (cols : ℕ) (items : Items) (cells : List Content) (o : Order)
    → parts_of d ≡ Ok p → or_refuse (MissingField fields.Cols) p.cols ≡ Ok c → or_refuse (MissingField fields.Data) p.data_part ≡ Ok v
    → cols_in c ≡ Ok cols → items_in v ≡ Ok items → cells_from read 0 items ≡ Ok cells → order_in p.order ≡ Ok o → reading read d ≡ cut o cols cells
all_tests read d p c v cols items cells o parts has_cols has_data is_cols is_items are_cells is_order =
    rw (parts, has_cols, has_data, is_cols, is_items, are_cells, is_order)

module _ {T : Type 0} (content : T → Content) (g : GridValue T) where
  written_cells : map written (storage g.order (contents content g).rows) ≡ map (λ x. written (content x)) (storage g.order g.rows)
  written_cells = ap (map written) (storage_map content g.order g.rows) ∙ map-map written content (storage g.order g.rows)

  -- the parts of which the code makes the value
  pub value_is : (cols : ℕ) (v : Data) (name : List ℕ) → cols ≡ col_count g.rows → v ≡ array (items_of (map (λ x. written (content x)) (storage g.order g.rows))) → name ≡ order_name g.order
      → object (member (codes "cols") (number (unsigned cols)) (member (codes "data") v (member (codes "order") (string name) no_members))) ≡ value_of (contents content g)
  value_is cols v name width cells order =
      let cols_is = width ∙ sym (cols_map content g.rows) in
      let cells_are = cells ∙ ap (λ l. array (items_of l)) (sym written_cells) in
      λ i. object (member (codes "cols") (number (unsigned (cols_is i))) (member (codes "data") (cells_are i) (member (codes "order") (string (order i)) no_members)))

  -- what was written is read as the same table and order
  pub reads_back : (read : Data → Option Content) → IsTable g.rows → length (storage g.order g.rows) < 2 ^ 64 → All (λ x. read (written (content x)) ≡ Some (content x)) (storage g.order g.rows)
      → reading read (value_of (contents content g)) ≡ Ok (contents content g)
  reads_back read table small law =
      let s = contents content g in
      let cells = map content (storage g.order g.rows) in
      let stored : storage g.order s.rows ≡ cells = storage_map content g.order g.rows in
      let data_is = array (items_of (map written (storage g.order s.rows))) in
      let parts : Parts = record { cols = Some (number (unsigned (col_count s.rows))); data_part = Some data_is; order = Some (string (order_name g.order)) } in
      let read_cells : cells_from read 0 (items_of (map written (storage g.order s.rows))) ≡ Ok cells =
      ap (λ l. cells_from read 0 (items_of l)) written_cells ∙ read_back read content (storage g.order g.rows) 0 law in
      all_tests read (value_of s) parts (number (unsigned (col_count s.rows))) data_is (col_count s.rows) (items_of (map written (storage g.order s.rows))) cells g.order
      refl refl refl refl refl read_cells (order_back g.order)
      ∙ cut_of_table g.order (col_count s.rows) cells s.rows (table_map content g.rows table) stored (λ some. refl) (rw (length-map (storage g.order g.rows) content) small)
