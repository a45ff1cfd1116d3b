-- The words of contracts, passed on from one place. Declares nothing.
pub use Rattle.grid_base.specs.Table.{concat_rows}
pub use Rattle.grid_pnm.specs.Enlarging.{enlarged}
unfoldable pub use Rattle.grid_pnm.specs.Header.{header_by}
pub use Rattle.grid_pnm.specs.Header.{format_of, header_of}
pub use Rattle.grid_pnm.specs.Reading.{pgm_of, ppm_of, IsOrMemory}
unfoldable pub use Rattle.grid_pnm.specs.Samples.{samples_of}
pub use Rattle.grid_pnm.specs.Samples.{sample_count, next_sample, plain_samples, raw_samples}
unfoldable pub use Rattle.grid_pnm.specs.Scan.{number_at, next_number}
pub use Rattle.grid_pnm.specs.Scan.{is_white, after_gap, digit_count}
pub use Rattle.grid_pnm.specs.Writing.{WritesBy, table_map, AnswersCell, AnswersColor, MayDrawGrays, MayDrawColors, raw_picture, pgm_bytes, ppm_bytes}
pub use Rattle.std.specs.List.{AllZip}
pub use Rattle.std.specs.Simd.{first_chunks}
