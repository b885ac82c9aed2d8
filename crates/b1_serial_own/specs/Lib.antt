pub use Rattle.b1_serial_rest.specs.Rest
