pub mod Heading
