-- The words of contracts, passed on from one place. Declares nothing.
pub use Rattle.grid_base.specs.Symmetry.{order_after, symmetries}
unfoldable pub use Rattle.grid_base.specs.Symmetry.{act}
pub use Rattle.grid_base.specs.Table.{IsTable}
pub use Rattle.grid_images.specs.Images.{AreAlike, DiffersBy, GivesEachImageOnce, IsGroup, IsLeastImage, give_one_image, is_first, number, same_symmetries, same_table, symmetry_at, takes}
unfoldable pub use Rattle.grid_images.specs.Images.{first_images, first_taking, fixing}
unfoldable pub use Rattle.grid_images.specs.TableOrder.{table_cmp}
pub use Rattle.grid_view.specs.Same.{same_view}
pub use Rattle.std.specs.Cmp.{IsTotalOrder}
pub use Rattle.std.specs.List.{list_any}
pub use Rattle.std.specs.Ordering.{is_eq}
